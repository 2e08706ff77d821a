use Rattle.std.proofs.Common.{List, length}
use Rattle.audit_model.specs.Least.{IsLeast}
use Rattle.audit_sightings.specs.Intake.{taken, interface_at}
use Rattle.audit_placement.specs.declared.entry.Entry.{Entry}
use Rattle.audit_placement.specs.FirstPlace.{Notes}
use Rattle.audit_placement.specs.Shows.{ShowsInterfaceOrder}
use Rattle.audit_placement.proofs.Interfaces.{Below}
use Rattle.audit_placement.proofs.neighbours.neighbours_breach.Given as goal

-- what the interfaces so far show
abbrev pub invariant-interfaces : goal.invariant-interfaces
invariant-interfaces l = (entries : List Entry) → Notes l.certificate l.first entries →
    IsLeast (Below (λ iface. ShowsInterfaceOrder entries iface (length (interface_at (taken l.intake) iface))) l.iface) l.least
