use Rattle.std.proofs.Common.{◌∙◌, arith, length-set}
use Rattle.audit_placement.proofs.TableGrowth.{longer_values}
use Rattle.audit_placement.proofs.table.grow_interfaces.Goals as goal

pub interfaces-preserved : goal.interfaces-preserved
interfaces-preserved g c =
    let by_interface = c.add_interface.new.by_interface.items in
    record {
      by_interface = omega (arith, c.in_ok-add_interface.ensures.there, length-set by_interface c.interfaces.iface c.fill.new.values);
      same = λ sight. longer_values c.args.blank by_interface c.interfaces.iface c.index_mut.result.now c.fill.new.values c.fill.ensures.0 c.in_ok-add_interface.ensures.there c.index_mut.ensures.value c.fill.ensures.1 sight
          ∙ c.add_interface.ensures.same sight ∙ c.interfaces.invariant.same sight;
    }
