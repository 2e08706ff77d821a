-- The places that stand a quarter apart.
use Rattle.std.proofs.Common.{◌≡◌, ◌<◌, ◌≤◌, ◌+◌, ◌*◌, ℕ, List, length, get_or, Bool, true, false, leb, refl, ap, ◌⊎◌, inl, inr, arith}
use mir.Val.{bool_byte}
use Rattle.std.proofs.lemmas.Bool.Decides.{nat_tests}
use Rattle.audit_sights.proofs.Places.{index_is}
use Rattle.audit_sights.specs.Pairs.{index_at, Rises}

-- 1 where the place has at most the index, and 0 where it has more
abbrev pub Tells : {V : Type 0} → List (ℕ × V) → ℕ → ℕ → ℕ → Type 0
Tells pairs index place n = ((n ≡ 1) × (index_at pairs place ≤ index)) ⊎ ((n ≡ 0) × (index < index_at pairs place))

-- from the test as a number
pub tells : {V : Type 0} (pairs : List (ℕ × V)) (index place n : ℕ) (d : ℕ × V) → place < length pairs → n ≡ bool_byte (leb (get_or pairs place d).0 index) → Tells pairs index place n
tells pairs index place n d inside is = by_test (leb (get_or pairs place d).0 index) refl is
  where
    read : index_at pairs place ≡ (get_or pairs place d).0
    read = index_is pairs place d inside

    by_test : (b : Bool) → leb (get_or pairs place d).0 index ≡ b → n ≡ bool_byte b → Tells pairs index place n
    by_test true test one = inl (one, (let at_most : (get_or pairs place d).0 ≤ index = grind (arith, nat_tests, test) in omega (arith, read, at_most)))
    by_test false test zero = inr (zero, (let more : index < (get_or pairs place d).0 = grind (arith, nat_tests, test) in omega (arith, read, more)))

module _ {V : Type 0} (pairs : List (ℕ × V)) (rises : Rises pairs) (index low quarter : ℕ) (some : 0 < quarter) (bound : low + 3 * quarter < length pairs) where
  abbrev IsLast : ℕ → Type 0
  IsLast s = (low < low + quarter * s → index_at pairs (low + quarter * s) ≤ index) × (low + quarter * s < low + 3 * quarter → index < index_at pairs (low + quarter * s + quarter))

  -- two places fall
  falls : (a b : ℕ) → a < b → b < length pairs → index < index_at pairs a → index_at pairs b ≤ index → ⊥
  falls a b below inside more at_most = omega (arith, rises a b below inside, more, at_most)

  pub last_quarter : (a b c s : ℕ) → s ≡ a + b + c → Tells pairs index (low + quarter) a → Tells pairs index (low + 2 * quarter) b → Tells pairs index (low + 3 * quarter) c → IsLast s
  last_quarter a b c s sum (inr x) (inr y) (inr z) =
      let e : s ≡ 0 = omega (arith, x.0, y.0, z.0) in
      let p = ap (λ (n : ℕ). quarter * n) e in
      let r : low + quarter * s + quarter ≡ low + quarter = omega (arith, p) in
      (λ past. absurd (omega (arith, p, past)), λ _. omega (arith, ap (index_at pairs) r, x.1))
  last_quarter a b c s sum (inl x) (inr y) (inr z) =
      let e : s ≡ 1 = omega (arith, x.0, y.0, z.0) in
      let p = ap (λ (n : ℕ). quarter * n) e in
      let q : low + quarter * s ≡ low + quarter = omega (arith, p) in
      let r : low + quarter * s + quarter ≡ low + 2 * quarter = omega (arith, p) in
      (λ _. omega (arith, ap (index_at pairs) q, x.1), λ _. omega (arith, ap (index_at pairs) r, y.1))
  last_quarter a b c s sum (inl x) (inl y) (inr z) =
      let e : s ≡ 2 = omega (arith, x.0, y.0, z.0) in
      let p = ap (λ (n : ℕ). quarter * n) e in
      let q : low + quarter * s ≡ low + 2 * quarter = omega (arith, p) in
      let r : low + quarter * s + quarter ≡ low + 3 * quarter = omega (arith, p) in
      (λ _. omega (arith, ap (index_at pairs) q, y.1), λ _. omega (arith, ap (index_at pairs) r, z.1))
  last_quarter a b c s sum (inl x) (inl y) (inl z) =
      let e : s ≡ 3 = omega (arith, x.0, y.0, z.0) in
      let p = ap (λ (n : ℕ). quarter * n) e in
      let q : low + quarter * s ≡ low + 3 * quarter = omega (arith, p) in
      (λ _. omega (arith, ap (index_at pairs) q, z.1), λ before. absurd (omega (arith, p, before)))
  last_quarter a b c s sum (inr x) (inl y) _ = absurd (falls (low + quarter) (low + 2 * quarter) (omega (arith, some)) (omega (arith, bound)) x.1 y.1)
  last_quarter a b c s sum (inr x) (inr y) (inl z) = absurd (falls (low + quarter) (low + 3 * quarter) (omega (arith, some)) bound x.1 z.1)
  last_quarter a b c s sum (inl x) (inr y) (inl z) = absurd (falls (low + 2 * quarter) (low + 3 * quarter) (omega (arith, some)) bound y.1 z.1)
