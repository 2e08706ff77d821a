-- Keys that are the same.
use Rattle.std.proofs.Common.{◌≡◌, ℕ, Bool, true, false, refl, sym, ap, ◌∙◌}
use Rattle.std.specs.declared.cmp.Ordering.{Ordering}
use Rattle.std.specs.declared.cmp.Ordering.TheVariants.{Less, Equal, Greater}
use Rattle.std.specs.Ordering.{nat_cmp, ordering_then, is_eq}
use Rattle.std.proofs.lemmas.Cmp.{ranked}
use Rattle.prep_fragments.specs.declared.fragment.Key.{Key}
use Rattle.prep_fragments.specs.Parts.{key_cmp, is_same}

both : (x y : Ordering) → is_eq (ordering_then x y) ≡ true → (is_eq x ≡ true) × (is_eq y ≡ true)
both Less y e = absurd cc
both Equal y e = (refl, e)
both Greater y e = absurd cc

same_number : (x y : ℕ) (r : Ordering) → r ≡ nat_cmp x y → is_eq r ≡ true → x ≡ y
same_number x y Less h e = absurd cc
same_number x y Equal h e = ranked x y Equal h
same_number x y Greater h e = absurd cc

abbrev key_of : ℕ → ℕ → ℕ → ℕ → Key
key_of a b c d = record { iface = a; from = b; to = c; id = d }

-- keys that are the same are equal
pub exact : (a b : Key) → is_same a b ≡ true → a ≡ b
exact a b e =
    let one = both (nat_cmp a.iface b.iface) (ordering_then (nat_cmp a.from b.from) (ordering_then (nat_cmp a.to b.to) (nat_cmp a.id b.id))) e in
    let two = both (nat_cmp a.from b.from) (ordering_then (nat_cmp a.to b.to) (nat_cmp a.id b.id)) one.1 in
    let three = both (nat_cmp a.to b.to) (nat_cmp a.id b.id) two.1 in
    let four = same_number a.id b.id (nat_cmp a.id b.id) refl three.1 in
    ap (λ (n : ℕ). key_of n a.from a.to a.id) (same_number a.iface b.iface (nat_cmp a.iface b.iface) refl one.0)
    ∙ ap (λ (n : ℕ). key_of b.iface n a.to a.id) (same_number a.from b.from (nat_cmp a.from b.from) refl two.0)
    ∙ ap (λ (n : ℕ). key_of b.iface b.from n a.id) (same_number a.to b.to (nat_cmp a.to b.to) refl three.0)
    ∙ ap (λ (n : ℕ). key_of b.iface b.from b.to n) four
