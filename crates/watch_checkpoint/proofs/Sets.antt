-- The sets with one client more.
use Rattle.std.proofs.Common.{◌≡◌, Bool, true, false, cond, eqb, ◌&&◌, ◌||◌, List, [], ◌∷◌, ◌++◌, refl, sym, ap, ◌∙◌}
use Rattle.std.specs.BTreeSet.{BTreeSet, contains, Updates}
use Rattle.std.specs.List.{list_any}
use Rattle.std.specs.Ordering.{is_eq, nat_cmp}
use Rattle.std.specs.Cmp.{tied_then, unsigned_tied}
use Rattle.audit_model.specs.declared.address.Addr.{Addr}
use Rattle.audit_model.specs.Lanes.{same_addr}
use Rattle.audit_model.specs.LanePairs.{addr_cmp}

swapped : (x y z : Bool) → (x || (y || z)) ≡ (y || (x || z))
swapped true true z = refl
swapped true false z = refl
swapped false y z = refl

pub any_push : {X : Type 0} (p : X → Bool) (xs : List X) (x : X) (t : Bool) → p x ≡ t → list_any p (xs ++ x ∷ []) ≡ (t || list_any p xs)
any_push p [] x t e = ap (λ (s : Bool). s || false) e
any_push p (y ∷ ys) x t e = ap (λ (s : Bool). p y || s) (any_push p ys x t e) ∙ swapped (p y) t (list_any p ys)

same_address : (a b : Addr) → is_eq (addr_cmp a b) ≡ same_addr a b
same_address a b = sym (tied_then (nat_cmp a.ip b.ip) (nat_cmp a.port b.port)) ∙ ap (λ t. t && is_eq (nat_cmp a.port b.port)) (unsigned_tied a.ip b.ip) ∙ ap (λ t. eqb a.ip b.ip && t) (unsigned_tied a.port b.port)

either : (t x : Bool) → cond t true x ≡ (t || x)
either true x = refl
either false x = refl

pub after_insert : (s n : BTreeSet Addr) (r : Addr) → Updates addr_cmp s n r true → (a : Addr) → contains addr_cmp n a ≡ (same_addr r a || contains addr_cmp s a)
after_insert s n r u a = u.0 a ∙ ap (λ (t : Bool). cond t true (contains addr_cmp s a)) (same_address r a) ∙ either (same_addr r a) (contains addr_cmp s a)
