use Rattle.std.proofs.Common.{◌∙◌, ap, arith}
use Rattle.audit_sightings.specs.ByInterface.{count_of}
use Rattle.audit_sightings.proofs.JoinSteps.{AreByInterface-joined, AreNewest-joined}
use Rattle.audit_sightings.proofs.by_interface.ByInterface.joined.Goals as goal

pub invariant_of-result : goal.invariant_of-result
invariant_of-result c =
    let old = c.self.inside in
    let other = c.other.inside in
    let new = c.in_ok-interfaces.interfaces.items in (
      AreByInterface-joined _ c.in-Some.count old.count other.count old.interfaces.items other.interfaces.items new c.self.invariant.0 c.other.invariant.0 c.in_ok-interfaces.ensures
          (c.in-Some.ensures.0 ∙ ap count_of c.deref.ensures.value) (omega (arith, c.in-Some.ensures.1)),
      AreNewest-joined c.args.file old.interfaces.items other.interfaces.items new old.newest other.newest c.newest_of_both.result c.self.invariant.1 c.other.invariant.1 c.in_ok-interfaces.ensures c.newest_of_both.ensures.below c.newest_of_both.ensures.behind,
    )
