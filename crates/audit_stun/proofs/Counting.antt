-- Which attributes count, one after the other.
use Rattle.std.proofs.Common.{◌≡◌, inl, inr, ℕ, true, false, List, [], ◌∷◌, ap, refl}
use Rattle.std.proofs.lemmas.Bool.{ne_eqb, cases_eq}
use Rattle.audit_stun.specs.declared.counted.Passed.{Passed}
use Rattle.audit_stun.specs.declared.counted.Passed.TheVariants.{Neither, Integrity, IntegritySha256}
use Rattle.audit_stun.specs.Attribute.{Attribute}
use Rattle.audit_stun.specs.Counted.{counted, after_integrity}
use Rattle.audit_stun.specs.Left.{counts_behind, passed_with, counted_behind}

pub nothing_left : (passed : Passed) → counted_behind passed [] ≡ []
unfolding counted after_integrity
nothing_left Neither = refl
nothing_left Integrity = refl
nothing_left IntegritySha256 = refl

pub left_with : (passed : Passed) (a : Attribute) (others : List Attribute) → counts_behind passed a.kind ≡ true → counted_behind passed (a ∷ others) ≡ a ∷ counted_behind (passed_with passed a.kind) others
unfolding counted after_integrity
left_with Neither a others h = elim (cases_eq a.kind 8) [
  | inl k ↦ rw k refl
  | inr n ↦ elim (cases_eq a.kind 28) [
    | inl k ↦ rw k refl
    | inr m ↦ rw (ne_eqb a.kind 8 n, ne_eqb a.kind 28 m) refl
  ]
]
left_with Integrity a others h = elim (cases_eq a.kind 28) [
  | inl k ↦ rw k refl
  | inr n ↦ elim (cases_eq a.kind 32808) [
    | inl k ↦ rw k refl
    | inr m ↦ (let none : false ≡ true = rw (ne_eqb a.kind 28 n, ne_eqb a.kind 32808 m) at h in absurd cc)
  ]
]
left_with IntegritySha256 a others h = elim (cases_eq a.kind 32808) [
  | inl k ↦ rw k refl
  | inr m ↦ (let none : false ≡ true = rw (ne_eqb a.kind 32808 m) at h in absurd cc)
]

pub left_past : (passed : Passed) (a : Attribute) (others : List Attribute) → counts_behind passed a.kind ≡ false → counted_behind passed (a ∷ others) ≡ counted_behind passed others
unfolding counted after_integrity
left_past Neither a others h = absurd cc
left_past Integrity a others h = elim (cases_eq a.kind 28) [
  | inl k ↦ (let none : true ≡ false = rw k at h in absurd cc)
  | inr n ↦ elim (cases_eq a.kind 32808) [
    | inl k ↦ (let none : true ≡ false = rw k at h in absurd cc)
    | inr m ↦ rw (ne_eqb a.kind 28 n, ne_eqb a.kind 32808 m) refl
  ]
]
left_past IntegritySha256 a others h = elim (cases_eq a.kind 32808) [
  | inl k ↦ (let none : true ≡ false = rw k at h in absurd cc)
  | inr m ↦ rw (ne_eqb a.kind 32808 m) refl
]
