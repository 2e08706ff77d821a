use Rattle.std.proofs.Common.{◌∙◌, List, length, ap, sym, arith}
use Rattle.audit_model.specs.declared.sighting.SightId.{SightId}
use Rattle.audit_model.specs.declared.sighting.Sighting.{Sighting}
use Rattle.audit_sightings.specs.ByInterface.{of_interface}
use Rattle.audit_sightings.proofs.NewestSteps.{AreNewest-push}
use Rattle.audit_sightings.proofs.RowSteps.{AreByInterface-push}
use Rattle.audit_sightings.proofs.by_interface.ByInterface.push.Goals as goal

pub invariant_of-self-2 : goal.invariant_of-self-2
invariant_of-self-2 c =
    let named_by : List Sighting → SightId = λ interface. record { iface = c.args.iface; index = length interface } in (
      AreByInterface-push c.self.inside.interfaces.items c.add.new.interfaces.items c.self.inside.count c.args.iface _ c.self.invariant.0 (omega arith) (c.in_ok-add.ensures.few c.self.invariant.0.few_interfaces c.requires)
          (ap named_by (c.interface.ensures.exact ∙ ap (λ (interfaces : List (List Sighting)). of_interface interfaces c.args.iface) (sym c.self.view_is)))
          (omega (arith, c.window-lo.type_inv.1), (omega arith, omega arith), (omega arith, omega arith), rw c.as_slice.ensures at c.bytes.ensures)
          c.in_ok-add.ensures.ok,
      AreNewest-push c.self.inside.interfaces.items c.add.new.interfaces.items c.args.iface _ c.self.inside.newest c.later.result c.in_ok-add.ensures.ok (omega arith) c.later.ensures c.self.invariant.1,
    )
