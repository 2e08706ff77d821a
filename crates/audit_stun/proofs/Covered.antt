-- What an integrity attribute covers, step by step over the attributes.
use Rattle.std.proofs.Common.{◌≡◌, ◌≢◌, ◌⊎◌, inl, inr, ℕ, ◌+◌, ◌-◌, ◌≤◌, List, [], ◌∷◌, cond, eqb, length, get_or, take, drop, Option, Some, None, refl, subst, arith}
use Rattle.std.specs.Prelude.{option_map, find}
use Rattle.std.specs.Int.{w16, to_be_bytes}
use Rattle.std.proofs.lemmas.Bool.{ne_eqb, eq-eqb, cases_eq}
use Rattle.audit_stun.specs.Attribute.{Attribute, padded, size}
use Rattle.audit_stun.specs.Counted.{counted, after_integrity, fingerprints, first_of}
use Rattle.audit_stun.specs.Parts.{attributes_in, parts_of}
use Rattle.audit_stun.specs.Covered.{size_before, covered_of}

-- the value of the first attribute of a type that no MESSAGE-INTEGRITY-SHA256 comes before
unfoldable pub found_by : ℕ → List Attribute → Option (List ℕ)
found_by kind [] = None
found_by kind (a ∷ others) = cond (eqb a.kind kind) (Some a.value) (cond (eqb a.kind 28) None (found_by kind others))

abbrev value_of : ℕ → List Attribute → Option (List ℕ)
value_of kind counted_ones = option_map (λ a. a.value) (find (λ a. eqb a.kind kind) counted_ones)

none_behind : (attributes : List Attribute) → value_of 8 (fingerprints attributes) ≡ None
none_behind [] = refl
none_behind (a ∷ others) = elim (cases_eq a.kind 32808) [
  | inl k ↦ rw k (none_behind others)
  | inr n ↦ rw (ne_eqb a.kind 32808 n) (none_behind others)
]

found_behind : (attributes : List Attribute) → value_of 28 (after_integrity attributes) ≡ found_by 28 attributes
unfolding after_integrity found_by
found_behind [] = refl
found_behind (a ∷ others) = elim (cases_eq a.kind 28) [
  | inl k ↦ rw k refl
  | inr n ↦ elim (cases_eq a.kind 32808) [
    | inl k ↦ rw k (found_behind others)
    | inr m ↦ rw (ne_eqb a.kind 28 n, ne_eqb a.kind 32808 m) (found_behind others)
  ]
]

first_integrity : (attributes : List Attribute) → first_of 8 attributes ≡ found_by 8 attributes
unfolding first_of counted found_by
first_integrity [] = refl
first_integrity (a ∷ others) = elim (cases_eq a.kind 8) [
  | inl k ↦ rw k refl
  | inr n ↦ elim (cases_eq a.kind 28) [
    | inl k ↦ rw k (none_behind others)
    | inr m ↦ rw (ne_eqb a.kind 8 n, ne_eqb a.kind 28 m) (first_integrity others)
  ]
]

first_sha256 : (attributes : List Attribute) → first_of 28 attributes ≡ found_by 28 attributes
unfolding first_of counted found_by
first_sha256 [] = refl
first_sha256 (a ∷ others) = elim (cases_eq a.kind 28) [
  | inl k ↦ rw k refl
  | inr n ↦ elim (cases_eq a.kind 8) [
    | inl k ↦ rw k (found_behind others)
    | inr m ↦ rw (ne_eqb a.kind 28 n, ne_eqb a.kind 8 m) (first_sha256 others)
  ]
]

-- of the two integrity attributes, the first that counts is this one
pub first_found : (kind : ℕ) → (kind ≡ 8) ⊎ (kind ≡ 28) → (attributes : List Attribute) → first_of kind attributes ≡ found_by kind attributes
first_found kind (inl e) attributes = rw e (first_integrity attributes)
first_found kind (inr e) attributes = rw e (first_sha256 attributes)

pub size_past : (kind : ℕ) (a : Attribute) (others : List Attribute) → a.kind ≢ kind → size_before kind (a ∷ others) ≡ size a + size_before kind others
unfolding size_before
size_past kind a others h = rw (ne_eqb a.kind kind h) refl

pub found_past : (kind : ℕ) (a : Attribute) (others : List Attribute) → a.kind ≢ kind → a.kind ≢ 28 → found_by kind (a ∷ others) ≡ found_by kind others
unfolding found_by
found_past kind a others h g = rw (ne_eqb a.kind kind h, ne_eqb a.kind 28 g) refl

pub size_at : (kind : ℕ) (a : Attribute) (others : List Attribute) → a.kind ≡ kind → size_before kind (a ∷ others) ≡ 0
unfolding size_before
size_at kind a others h = rw (eq-eqb a.kind kind h) refl

pub found_at : (kind : ℕ) (a : Attribute) (others : List Attribute) → a.kind ≡ kind → found_by kind (a ∷ others) ≡ Some a.value
unfolding found_by
found_at kind a others h = rw (eq-eqb a.kind kind h) refl

pub none_at_end : (kind : ℕ) → found_by kind [] ≡ None
unfolding found_by
none_at_end kind = refl

pub none_at_sha256 : (kind : ℕ) (a : Attribute) (others : List Attribute) → a.kind ≢ kind → a.kind ≡ 28 → found_by kind (a ∷ others) ≡ None
unfolding found_by
none_at_sha256 kind a others h e = rw (ne_eqb a.kind kind h, e) refl

first_two : (b : List ℕ) → 20 ≤ length b → take 2 b ≡ get_or b 0 0 ∷ get_or b 1 0 ∷ []
first_two [] h = absurd (omega arith)
first_two (b0 ∷ []) h = absurd (omega arith)
first_two (b0 ∷ b1 ∷ rest) h = refl

pub nothing_covered : (kind : ℕ) (b : List ℕ) → (kind ≡ 8) ⊎ (kind ≡ 28) → found_by kind (attributes_in (drop 20 b)) ≡ None → None ≡ covered_of kind b
unfolding covered_of parts_of
nothing_covered kind b one h = rw (first_found kind one (attributes_in (drop 20 b)), h) refl

-- `rest` and `after` are how many bytes come from the attribute on, and after it
pub covered_at : (kind : ℕ) (b value len : List ℕ) (rest after : ℕ) → (kind ≡ 8) ⊎ (kind ≡ 28) → rest + 20 ≤ length b → 4 + padded (length value) + after ≡ rest → length b - rest ≡ 20 + size_before kind (attributes_in (drop 20 b)) → found_by kind (attributes_in (drop 20 b)) ≡ Some value → len ≡ to_be_bytes w16 (length b - after - 20)
    → Some (get_or b 0 0 ∷ get_or b 1 0 ∷ get_or len 0 0 ∷ get_or len 1 0 ∷ [], take (length b - rest - 4) (drop 4 b), value) ≡ covered_of kind b
unfolding covered_of parts_of
covered_at kind b value len rest after one within sized before first len_is =
    let n = size_before kind (attributes_in (drop 20 b)) in
    let total : length b - after - 20 ≡ n + 4 + padded (length value) = omega arith in
    let text : length b - rest - 4 ≡ (20 + n) - 4 = omega arith in
    let two = first_two b (omega arith) in
    rw (first_found kind one (attributes_in (drop 20 b)), first, len_is, total, text, two) refl
