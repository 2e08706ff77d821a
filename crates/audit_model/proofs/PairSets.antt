-- A set of pairs, and the lanes that have them.
use Rattle.std.proofs.Common.{◌≡◌, ℕ, Bool, true, false, cond, eqb, ◌&&◌, ◌||◌, refl, sym, ap, ◌∙◌}
use Rattle.std.specs.BTreeSet.{BTreeSet, contains, Updates}
use Rattle.std.specs.Ordering.{is_eq, nat_cmp}
use Rattle.std.specs.Cmp.{tied_then, unsigned_tied}
use Rattle.audit_model.specs.declared.address.Addr.{Addr}
use Rattle.audit_model.specs.Lanes.{same_addr, same_pair}
use Rattle.audit_model.specs.LanePairs.{addr_cmp, pair_cmp}

same_number : (x y : ℕ) → is_eq (nat_cmp x y) ≡ eqb x y
same_number x y = unsigned_tied x y

same_address : (a b : Addr) → is_eq (addr_cmp a b) ≡ same_addr a b
same_address a b = sym (tied_then (nat_cmp a.ip b.ip) (nat_cmp a.port b.port)) ∙ ap (λ t. t && is_eq (nat_cmp a.port b.port)) (same_number a.ip b.ip) ∙ ap (λ t. eqb a.ip b.ip && t) (same_number a.port b.port)

pub same : (client listen c l : Addr) → is_eq (pair_cmp (client, listen) (c, l)) ≡ same_pair client listen c l
same client listen c l = sym (tied_then (addr_cmp client c) (addr_cmp listen l)) ∙ ap (λ t. t && is_eq (addr_cmp listen l)) (same_address client c) ∙ ap (λ t. same_addr client c && t) (same_address listen l)

either : (t x : Bool) → cond t true x ≡ (t || x)
either true x = refl
either false x = refl

pub after_insert : (s n : BTreeSet (Addr × Addr)) (client listen : Addr) → Updates pair_cmp s n (client, listen) true → (c l : Addr) → contains pair_cmp n (c, l) ≡ (same_pair client listen c l || contains pair_cmp s (c, l))
after_insert s n client listen u c l = u.0 (c, l) ∙ ap (λ (t : Bool). cond t true (contains pair_cmp s (c, l))) (same client listen c l) ∙ either (same_pair client listen c l) (contains pair_cmp s (c, l))
