-- Skews in rising order, as they are read.
use Rattle.std.proofs.Common.{◌≡◌, ℕ, suc, ◌-◌, Bool, true, false, ◌&&◌, ltb, List, [], ◌∷◌, ◌++◌, length, Option, Some, None, refl, sym, ap, ◌∙◌, arith}
use Rattle.std.specs.Prelude.{slice_get}
use Rattle.audit_model.specs.declared.certificate.CertSkew.{CertSkew}
use Rattle.audit_model.specs.Skews.{rise}
use Rattle.audit_cert.specs.CertLines.{is_after_skews}

both_true : (s t : Bool) → (s && t) ≡ true → (s ≡ true) × (t ≡ true)
both_true true t e = (refl, e)
both_true false t e = absurd cc

and_true : (s t : Bool) → s ≡ true → t ≡ true → (s && t) ≡ true
and_true true t e h = h
and_true false t e h = absurd cc

pub rise_push : (skews : List CertSkew) (skew : CertSkew) → rise skews ≡ true → is_after_skews skews skew.iface ≡ true → rise (skews ++ skew ∷ []) ≡ true
rise_push [] skew rising after = refl
rise_push (x ∷ []) skew rising after = and_true (ltb x.iface skew.iface) true after refl
rise_push (x ∷ y ∷ more) skew rising after =
    let parts = both_true (ltb x.iface y.iface) (rise (y ∷ more)) rising in
    and_true (ltb x.iface y.iface) (rise ((y ∷ more) ++ skew ∷ [])) parts.0 (rise_push (y ∷ more) skew parts.1 after)

-- a skew behind others that rise with it
pub after_front : (before : List CertSkew) (skew : CertSkew) (more : List CertSkew) → rise (before ++ skew ∷ more) ≡ true → is_after_skews before skew.iface ≡ true
after_front [] skew more rising = refl
after_front (x ∷ []) skew more rising = first_of more rising where
  first_of : (more : List CertSkew) → rise (x ∷ skew ∷ more) ≡ true → ltb x.iface skew.iface ≡ true
  first_of more rising = (both_true (ltb x.iface skew.iface) (rise (skew ∷ more)) rising).0
after_front (x ∷ y ∷ bs) skew more rising = after_front (y ∷ bs) skew more (both_true (ltb x.iface y.iface) (rise ((y ∷ bs) ++ skew ∷ more)) rising).1

-- the last of the skews
abbrev pub after_last : Option CertSkew → ℕ → Bool
after_last None iface = true
after_last (Some last) iface = ltb last.iface iface

last_more : (x y : CertSkew) (more : List CertSkew) → slice_get (x ∷ y ∷ more) (length (x ∷ y ∷ more) - 1) ≡ slice_get (y ∷ more) (length (y ∷ more) - 1)
last_more x y more =
    let e : length (x ∷ y ∷ more) - 1 ≡ suc (length (y ∷ more) - 1) = omega arith in
    ap (slice_get (x ∷ y ∷ more)) e

pub last_is : (skews : List CertSkew) (iface : ℕ) → is_after_skews skews iface ≡ after_last (slice_get skews (length skews - 1)) iface
last_is [] iface = refl
last_is (x ∷ []) iface = refl
last_is (x ∷ y ∷ more) iface = last_is (y ∷ more) iface ∙ ap (λ (o : Option CertSkew). after_last o iface) (sym (last_more x y more))
