-- A list that is made one element after the other.
use Rattle.std.proofs.Common.{◌≡◌, ◌+◌, ◌<◌, ◌++◌, ℕ, zero, suc, Bool, true, false, cond, Some, List, [], ◌∷◌, map, length, take, get_or, refl, sym, ◌∙◌, ap, subst, arith}
use Rattle.std.specs.Prelude.{IsTrue, is_some}
use Rattle.std.proofs.lemmas.List.{map-append, take_more}
use Rattle.audit_model.specs.Sames.{same_sight}
use Rattle.audit_model.proofs.Sames.{sight_same}
use Rattle.audit_cuts.specs.declared.carried.Came.{Came}
use Rattle.audit_cuts.specs.Carried.{moment_in}

-- one more element of the new list has the next value
pub pushed : {A B : Type 0} (f : A → B) (moved after : List A) (x : A) (values : List B) (i : ℕ) (d : B) → i < length values → map f moved ≡ take i values
    → after ≡ moved ++ x ∷ [] → f x ≡ get_or values i d → map f after ≡ take (i + 1) values
pushed f moved after x values i d lt so_far push same =
    ap (map f) push ∙ map-append f moved (x ∷ []) ∙ ap (λ l. l ++ f x ∷ []) so_far ∙ ap (λ z. take i values ++ z ∷ []) same ∙ sym (take_more values i d lt)

-- an entry's sighting has a moment
pub moment_there : (times : List Came) (i : ℕ) (d : Came) → i < length times → IsTrue (is_some (moment_in times (get_or times i d).sight))
moment_there [] i d lt = absurd (omega arith)
moment_there (came ∷ rest) zero d lt = subst (λ b. IsTrue (is_some (cond b (Some came.moment) (moment_in rest came.sight)))) (sym (sight_same came.sight came.sight refl)) refl
moment_there (came ∷ rest) (suc i) d lt = by_case (same_sight came.sight (get_or rest i d).sight) (moment_there rest i d (omega (arith, lt))) where
  by_case : (b : Bool) → IsTrue (is_some (moment_in rest (get_or rest i d).sight)) → IsTrue (is_some (cond b (Some came.moment) (moment_in rest (get_or rest i d).sight)))
  by_case true h = refl
  by_case false h = h
