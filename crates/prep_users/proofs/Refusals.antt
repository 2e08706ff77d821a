-- Refusals that a caller passes on.
use Rattle.std.proofs.Common.{◌≡◌, ◌⊎◌, ◌<◌, ℕ, List, Result, Ok, Err, IfErr, length, get_or, inl, inr, sym, subst}
use Rattle.std.specs.Prelude.{Any, IsErrAnd}
use Rattle.std.proofs.lemmas.List.{get_or_default}

-- what holds of a fault holds of what it ends with
pub err_is : {A E : Type 0} (Q : E → Type 0) (result : Result A E) (e : E) → IsErrAnd result (λ f. f ≡ e) → Q e → IfErr result Q
err_is Q (Ok x) e is q = absurd is
err_is Q (Err f) e is q = subst Q (sym is) q

-- what holds of one element holds of some
pub or_any : {A X : Type 0} (P : X → Type 0) (xs : List X) (i : ℕ) (d : X) → i < length xs → A ⊎ P (get_or xs i d) → A ⊎ Any P xs
or_any P xs i d inside (inl a) = inl a
or_any P xs i d inside (inr h) = inr (i, get_or xs i d, inside, get_or_default xs i (get_or xs i d) d inside, h)

-- what holds of a fault holds of each that follows
pub err_so : {A E : Type 0} (P Q : E → Type 0) (result : Result A E) → IfErr result P → ((e : E) → P e → Q e) → IfErr result Q
err_so P Q (Ok x) h f = h
err_so P Q (Err e) h f = f e h
