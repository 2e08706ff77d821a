-- Which releases are noted.
use Rattle.std.proofs.Common.{◌≡◌, ℕ, Bool, true, false, cond, ◌&&◌, ◌⊎◌, inl, inr, refl, sym, ap, subst, ◌∙◌}
use Rattle.std.specs.BTreeSet.{BTreeSet, contains, Updates}
use Rattle.std.specs.Ordering.{is_eq, nat_cmp, ordering_then}
use Rattle.std.specs.Cmp.{tied_then, unsigned_tied}
use Rattle.std.proofs.lemmas.Bool.{eqb-true}
use Rattle.audit_model.specs.declared.address.Addr.{Addr}
use Rattle.audit_model.specs.declared.policy.Policy.{Policy}
use Rattle.audit_model.specs.LanePairs.{addr_cmp}
use Rattle.prep_blocks.specs.declared.block.Block.{Block}
use Rattle.prep_cut.specs.declared.release.Release.{Release}
use Rattle.prep_cut.specs.Releasing.{IsReleaseIn, release_cmp}

pub both : (a b : Bool) → (a && b) ≡ true → (a ≡ true) × (b ≡ true)
both true true e = (refl, refl)
both true false e = absurd cc
both false b e = absurd cc

same_number : (x y : ℕ) → is_eq (nat_cmp x y) ≡ true → x ≡ y
same_number x y e = eqb-true x y (sym (unsigned_tied x y) ∙ e)

address : ℕ → ℕ → Addr
address ip port = record { ip = ip; port = port }

pub same_address : (a b : Addr) → is_eq (addr_cmp a b) ≡ true → a ≡ b
unfolding address
same_address a b e =
    let parts = both (is_eq (nat_cmp a.ip b.ip)) (is_eq (nat_cmp a.port b.port)) (tied_then (nat_cmp a.ip b.ip) (nat_cmp a.port b.port) ∙ e) in
    ap (λ (ip : ℕ). address ip a.port) (same_number a.ip b.ip parts.0) ∙ ap (λ (port : ℕ). address b.ip port) (same_number a.port b.port parts.1)

of_parts : Addr → Addr → ℕ → Release
of_parts client listen moment = record { client = client; listen = listen; moment = moment }

same_release : (a b : Release) → is_eq (release_cmp a b) ≡ true → a ≡ b
unfolding of_parts
same_release a b e =
    let first = both (is_eq (addr_cmp a.client b.client)) (is_eq (ordering_then (addr_cmp a.listen b.listen) (nat_cmp a.moment b.moment)))
    (tied_then (addr_cmp a.client b.client) (ordering_then (addr_cmp a.listen b.listen) (nat_cmp a.moment b.moment)) ∙ e) in
    let second = both (is_eq (addr_cmp a.listen b.listen)) (is_eq (nat_cmp a.moment b.moment)) (tied_then (addr_cmp a.listen b.listen) (nat_cmp a.moment b.moment) ∙ first.1) in
    ap (λ (client : Addr). of_parts client a.listen a.moment) (same_address a.client b.client first.0)
    ∙ ap (λ (listen : Addr). of_parts b.client listen a.moment) (same_address a.listen b.listen second.0)
    ∙ ap (λ (moment : ℕ). of_parts b.client b.listen moment) (same_number a.moment b.moment second.1)

by_order : (policy : Policy) (block : Block) (one other : Release) (test had : Bool) → is_eq (release_cmp one other) ≡ test → cond test true had ≡ true
    → IsReleaseIn policy one block → (had ≡ true) ⊎ IsReleaseIn policy other block
by_order policy block one other true had e is shown = inr (subst (λ (r : Release). IsReleaseIn policy r block) (same_release one other e) shown)
by_order policy block one other false had e is shown = inl is

-- a release of the block more
pub noted_one : (policy : Policy) (block : Block) (old new : BTreeSet Release) (one : Release) → Updates release_cmp old new one true → IsReleaseIn policy one block
    → (other : Release) → contains release_cmp new other ≡ true → (contains release_cmp old other ≡ true) ⊎ IsReleaseIn policy other block
noted_one policy block old new one u shown other is =
    by_order policy block one other (is_eq (release_cmp one other)) (contains release_cmp old other) refl (sym (u.0 other) ∙ is) shown
