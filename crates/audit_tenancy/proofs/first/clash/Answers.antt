use Rattle.std.proofs.Common.{rules}
use Rattle.audit_tenancy.proofs.Sorting.{in_order, least_moved}
use Rattle.audit_tenancy.proofs.first.clash.Goals as goal

pub first_clash-requires : goal.first_clash-requires
first_clash-requires c = rw c.deref.ensures.value (in_order _ c.sort_unstable_by.ensures.sorted (λ a r q k. search rules))

pub returns : goal.returns
returns c =
    least_moved c.args.tenancies.now c.sort_unstable_by.new.self.items c.first_clash.result
    (rw (← c.in_ok-sorted.ensures.items_if_clones_equal (λ x y same. same)) c.sort_unstable_by.ensures.permutation)
    (rw (← c.deref.ensures.value) c.first_clash.ensures)
