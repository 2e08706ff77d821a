-- What a reading's steps gave, where the whole of it gave a value.
use Rattle.std.proofs.Common.{◌≡◌, ◌⊎◌, Bool, true, false, cond, Result, Ok, Err, inl, inr, refl, ap, subst}
use Rattle.std.specs.Prelude.{IfOk}
use Rattle.audit_text.specs.declared.token.TokenFault.{TokenFault}
use Rattle.audit_text.specs.declared.token.TokenFault.TheVariants.{Shape, Number}
use Rattle.audit_text.specs.Token.{◌>>=◌, both_of}
use Rattle.audit_cert.specs.CertFault.{of_word}

pub bind_ok : {A B E : Type 0} (r : Result A E) (f : A → Result B E) (y : B) → (r >>= f) ≡ Ok y → (x : A) × (r ≡ Ok x) × (f x ≡ Ok y)
bind_ok (Ok x) f y e = (x, refl, e)
bind_ok (Err d) f y e = absurd cc

pub both_ok : {A B : Type 0} (r : Result A TokenFault) (s : Result B TokenFault) (p : A × B) → both_of r s ≡ Ok p → (r ≡ Ok p.0) × (s ≡ Ok p.1)
both_ok {A = A} {B = B} (Ok a) (Ok b) p e = let same : (a, b) ≡ p = cc in (ap (λ (q : A × B). Ok q.0) same, ap (λ (q : A × B). Ok q.1) same)
both_ok (Ok a) (Err d) p e = absurd cc
both_ok (Err d) (Ok b) p e = absurd cc
both_ok (Err Shape) (Err d) p e = absurd cc
both_ok (Err Number) (Err d) p e = absurd cc

pub word_ok : {A : Type 0} (r : Result A TokenFault) (x : A) → of_word r ≡ Ok x → r ≡ Ok x
word_ok (Ok y) x e = cc
word_ok (Err d) x e = absurd cc

-- a test that has to fail, and one that has to hold
pub guard_false : {A E : Type 0} (t : Bool) (d : E) (r : Result A E) (y : A) → cond t (Err d) r ≡ Ok y → (t ≡ false) × (r ≡ Ok y)
guard_false true d r y e = absurd cc
guard_false false d r y e = (refl, e)

pub guard_true : {A E : Type 0} (t : Bool) (d : E) (r : Result A E) (y : A) → cond t r (Err d) ≡ Ok y → (t ≡ true) × (r ≡ Ok y)
guard_true true d r y e = (refl, e)
guard_true false d r y e = absurd cc

pub chosen : {A : Type 0} (t : Bool) (x y z : A) → cond t x y ≡ z → ((t ≡ true) × (x ≡ z)) ⊎ ((t ≡ false) × (y ≡ z))
chosen true x y z e = inl (refl, e)
chosen false x y z e = inr (refl, e)

pub ok_is : {A E : Type 0} (x y : A) → ◌≡◌ {A = Result A E} (Ok x) (Ok y) → x ≡ y
ok_is x y e = cc

pub if_ok : {A E : Type 0} (r : Result A E) (x : A) (P : A → Type 0) → r ≡ Ok x → IfOk r P → P x
if_ok r x P e h = subst (λ s. IfOk s P) e h
