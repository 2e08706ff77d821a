use Rattle.std.proofs.Common.{rules, ◌≡◌, subst, sym}
use Rattle.audit_sightings.specs.ByInterface.{of_interface, IsNumbered}
use Rattle.audit_sightings.proofs.by_interface.ByInterface.interface.Goals as goal

pub returns-in-Some-clause-numbered : goal.returns-in-Some-clause-numbered
returns-in-Some-clause-numbered c =
    let is : c.as_slice.result.now ≡ of_interface c.self.inside.interfaces.items c.args.iface = search rules in
    subst (IsNumbered c.args.iface) (sym is) (c.self.invariant.0.numbered c.args.iface)
