-- What a binary search finds among skews that rise.
use Rattle.std.proofs.Common.{◌≡◌, ℕ, zero, suc, ◌<◌, ◌≤◌, ltb, ◌≢◌, Bool, true, false, ◌&&◌, List, [], ◌∷◌, length, get_or, Some, None, Result, Ok, Err, refl, sym, ap, arith}
use Rattle.std.specs.List.Sorted.{IsSearchInRange, IsBinarySearchResult, IsNonDecreasingBy}
use Rattle.std.specs.Ordering.{nat_cmp, ordering_index}
use Rattle.std.specs.Prelude.{MatchResult}
use Rattle.std.proofs.lemmas.Bool.Decides.{nat_tests}
use Rattle.std.proofs.lemmas.Cmp.{ranked}
use Rattle.std.proofs.lemmas.List.Sorted.{IsNonDecreasingBy-from_default}
use Rattle.audit_model.specs.declared.certificate.CertSkew.{CertSkew}
use Rattle.audit_model.specs.Skews.{rise, skew_of}

abbrev pub no_skew : CertSkew
no_skew = record { iface = 0; microseconds = 0 }

abbrev iface_at : List CertSkew → ℕ → ℕ
iface_at skews i = (get_or skews i no_skew).iface

both_true : (s t : Bool) → (s && t) ≡ true → (s ≡ true) × (t ≡ true)
both_true true t e = (refl, e)
both_true false t e = absurd cc

-- each is greater than all before it
rising : (skews : List CertSkew) → rise skews ≡ true → (i j : ℕ) → i < j → j < length skews → iface_at skews i < iface_at skews j
rising [] rises i j lt within = absurd (omega arith)
rising (x ∷ []) rises i j lt within = absurd (omega arith)
rising (x ∷ y ∷ more) rises i zero lt within = absurd (omega arith)
rising (x ∷ y ∷ more) rises zero (suc zero) lt within = grind (arith, nat_tests, (both_true (ltb x.iface y.iface) (rise (y ∷ more)) rises).0)
rising (x ∷ y ∷ more) rises zero (suc (suc j)) lt within =
    let parts = both_true (ltb x.iface y.iface) (rise (y ∷ more)) rises in
    grind (arith, nat_tests, parts.0, rising (y ∷ more) parts.1 zero (suc j) (omega arith) (omega arith))
rising (x ∷ y ∷ more) rises (suc i) (suc j) lt within = rising (y ∷ more) (both_true (ltb x.iface y.iface) (rise (y ∷ more)) rises).1 i j (omega arith) (omega arith)

-- there is none of an interface that no skew is of
of_none : (skews : List CertSkew) (iface : ℕ) → ((j : ℕ) → j < length skews → iface_at skews j ≢ iface) → skew_of skews iface ≡ None
of_none [] iface other = refl
of_none (x ∷ skews) iface other = grind (arith, nat_tests, other 0 (omega arith), of_none skews iface (λ j lt. other (suc j) (omega arith)))

-- the first of an interface is its skew
of_first : (skews : List CertSkew) (iface i : ℕ) → i < length skews → iface_at skews i ≡ iface → ((j : ℕ) → j < i → iface_at skews j ≢ iface)
    → skew_of skews iface ≡ Some (get_or skews i no_skew).microseconds
of_first [] iface i within same other = absurd (omega arith)
of_first (x ∷ skews) iface zero within same other = grind (arith, nat_tests, same)
of_first (x ∷ skews) iface (suc i) within same other =
    grind (arith, nat_tests, other 0 (omega arith), of_first skews iface i (omega arith) same (λ j lt. other (suc j) (omega arith)))

module _ (skews : List CertSkew) (rises : rise skews ≡ true) (iface : ℕ) where
  comparisons_rise : IsNonDecreasingBy (λ skew. ordering_index (nat_cmp skew.iface iface)) skews
  comparisons_rise = IsNonDecreasingBy-from_default (λ skew. ordering_index (nat_cmp skew.iface iface)) skews no_skew (λ i j le within.
      let ifaces_rise : iface_at skews i ≤ iface_at skews j = grind (arith, rising skews rises i j, λ (same : i ≡ j). ap (iface_at skews) same) in
      grind (arith, nat_tests))

  pub searched : (found : Result ℕ ℕ) → IsSearchInRange found (length skews) → IsBinarySearchResult (λ skew. nat_cmp skew.iface iface) skews found
      → MatchResult found (λ at. (at < length skews) × (skew_of skews iface ≡ Some (get_or skews at no_skew).microseconds)) (λ _. skew_of skews iface ≡ None)
  searched (Ok at) within equal =
      let same : iface_at skews at ≡ iface = ranked _ iface _ (sym (equal no_skew)) in
      (within, of_first skews iface at within same (λ j lt e. omega (arith, rising skews rises j at lt within)))
  searched (Err at) within parted = of_none skews iface (λ j lt e.
      let below : j < at → iface_at skews j < iface = λ l. ranked _ iface _ (sym ((parted comparisons_rise).0 j no_skew (omega arith) l)) in
      let above : at ≤ j → iface < iface_at skews j = λ l. ranked _ iface _ (sym ((parted comparisons_rise).1 j no_skew l lt)) in
      grind (arith, below, above))
