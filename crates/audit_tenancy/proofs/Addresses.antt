-- The order of addresses, and of tenancies by address and birth.
use Rattle.std.proofs.Common.{◌≡◌, ◌≢◌, ℕ, Bool, not, ◌&&◌, nat_eq, false, true, refl, sym, ap, ◌∙◌, subst}
use Rattle.std.proofs.lemmas.Bool.{true≢false}
use Rattle.std.specs.Cmp.{IsTotalOrder, unsigned_Decides, nat_cmp_total, on_total, then_total, tied_itself}
use Rattle.std.specs.Ordering.{is_gt, is_lt, ordering_then, ordering_reverse, nat_cmp}
use Rattle.std.proofs.lemmas.Map.Lookups.{exact_unsigned}
use Rattle.std.specs.declared.cmp.Ordering.{Ordering}
use Rattle.std.specs.declared.cmp.Ordering.TheVariants.{Less, Equal, Greater}
use Rattle.audit_model.specs.declared.address.Addr.{Addr}
use Rattle.audit_model.specs.declared.event.Key.{Key}
use Rattle.audit_model.specs.declared.verdict.Tenancy.{Tenancy}
use Rattle.audit_model.specs.Clash.{Precedes}
use Rattle.audit_model.proofs.Orders.{act_total}
use Rattle.audit_tenancy.specs.Kept.{addr_cmp, tenancy_cmp}

pub addr_total : IsTotalOrder addr_cmp
addr_total = then_total (on_total (λ (a : Addr). a.ip) nat_cmp_total) (on_total (λ (a : Addr). a.port) nat_cmp_total)

pub tenancy_total : IsTotalOrder tenancy_cmp
tenancy_total =
    then_total (on_total (λ (t : Tenancy). t.relayed) addr_total) (on_total (λ (t : Tenancy). let act : Key × ℕ = (t.born.key, t.born.lane) in act) act_total)

both_equal : (first second : Ordering) → ordering_then first second ≡ Equal → (first ≡ Equal) × (second ≡ Equal)
both_equal Less second h = absurd (true≢false (ap is_lt h))
both_equal Equal second h = (refl, h)
both_equal Greater second h = absurd (true≢false (ap is_gt h))

first_not_after : (first second : Ordering) → is_gt (ordering_then first second) ≡ false → is_gt first ≡ false
first_not_after Less second h = refl
first_not_after Equal second h = refl
first_not_after Greater second h = h

-- neither way after is equal
equal_both_ways : (there back : Ordering) → there ≡ ordering_reverse back → is_gt there ≡ false → is_gt back ≡ false → there ≡ Equal
equal_both_ways Less Greater turned h k = absurd (true≢false k)
equal_both_ways Less Less turned h k = absurd (true≢false (ap is_lt turned))
equal_both_ways Less Equal turned h k = absurd (true≢false (ap is_lt turned))
equal_both_ways Equal back turned h k = refl
equal_both_ways Greater back turned h k = absurd (true≢false h)

-- addresses that tie are equal
same_address : (one other : Addr) → addr_cmp one other ≡ Equal → one ≡ other
same_address one other h =
    let parts : (nat_cmp one.ip other.ip ≡ Equal) × (nat_cmp one.port other.port ≡ Equal) = both_equal _ _ h in
    λ i. record { ip = exact_unsigned one.ip other.ip parts.0 i; port = exact_unsigned one.port other.port parts.1 i }

-- of equal addresses, in other lanes: the first is born before
not_after_less : (acts : Ordering) → is_gt acts ≡ false → acts ≢ Equal → acts ≡ Less
not_after_less Less h k = refl
not_after_less Equal h k = absurd (k refl)
not_after_less Greater h k = absurd (true≢false h)

pub born_before : (one new : Tenancy) → is_gt (tenancy_cmp one new) ≡ false → one.relayed ≡ new.relayed → one.born.lane ≢ new.born.lane
    → Precedes one.born.key one.born.lane new.born.key new.born.lane
born_before one new order same lanes =
    let tied : addr_cmp one.relayed new.relayed ≡ Equal = rw same (tied_itself addr_total new.relayed) in
    not_after_less _ (rw tied at order) (λ equal. lanes (exact_unsigned _ _ (both_equal _ _ equal).1))

-- what comes before has no later address
pub address_before : (one new : Tenancy) → is_gt (tenancy_cmp one new) ≡ false → is_gt (addr_cmp one.relayed new.relayed) ≡ false
address_before one new order = first_not_after _ _ order

-- past another address, no earlier one has it
pub fresh_address : (one longest new : Tenancy) → is_gt (addr_cmp one.relayed longest.relayed) ≡ false → is_gt (tenancy_cmp longest new) ≡ false
    → longest.relayed ≢ new.relayed → one.relayed ≢ new.relayed
fresh_address one longest new order before other same =
    other (same_address _ _ (equal_both_ways _ _ (addr_total.antisymm longest.relayed new.relayed) (address_before longest new before) (rw same at order)))

-- one isn't born before another that it comes after
pub not_born_before : (new later : Tenancy) → is_gt (tenancy_cmp new later) ≡ false → later.relayed ≡ new.relayed
    → ¬ Precedes later.born.key later.born.lane new.born.key new.born.lane
not_born_before new later order same before =
    let tied : addr_cmp later.relayed new.relayed ≡ Equal = rw same (tied_itself addr_total new.relayed) in
    let less : tenancy_cmp later new ≡ Less = rw tied before in
    absurd (true≢false (sym (ap is_gt (tenancy_total.antisymm new later ∙ ap ordering_reverse less)) ∙ order))

-- how the code compares two addresses
both_true : (p q : Bool) → not (p && q) ≡ false → (p ≡ true) × (q ≡ true)
both_true true true h = (refl, refl)
both_true true false h = absurd (true≢false h)
both_true false q h = absurd (true≢false h)

pub addresses_same : (one other : Addr) → not (nat_eq one.ip other.ip && nat_eq one.port other.port) ≡ false → one ≡ other
addresses_same one other h =
    let parts : (nat_eq one.ip other.ip ≡ true) × (nat_eq one.port other.port ≡ true) = both_true _ _ h in
    λ i. record { ip = (unsigned_Decides one.ip other.ip).0 parts.0 i; port = (unsigned_Decides one.port other.port).0 parts.1 i }

itself : (one : Addr) → not (nat_eq one.ip one.ip && nat_eq one.port one.port) ≡ false
itself one = rw ((unsigned_Decides one.ip one.ip).1 refl, (unsigned_Decides one.port one.port).1 refl) refl

pub addresses_differ : (one other : Addr) → not (nat_eq one.ip other.ip && nat_eq one.port other.port) ≡ true → one ≢ other
addresses_differ one other h same =
    let Differs : Addr → Type 0 = λ a. not (nat_eq one.ip a.ip && nat_eq one.port a.port) ≡ true in
    absurd (true≢false (sym (subst Differs (sym same) h) ∙ itself one))
