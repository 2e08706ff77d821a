use Rattle.std.proofs.Common.{List, length}
use Rattle.audit_model.specs.Least.{IsLeast}
use Rattle.audit_sightings.specs.Intake.{taken, interface_at}
use Rattle.audit_placement.specs.declared.entry.Entry.{Entry}
use Rattle.audit_placement.specs.Places.{Knows}
use Rattle.audit_placement.specs.Shows.{ShowsUnplaced}
use Rattle.audit_placement.proofs.Interfaces.{Below}
use Rattle.audit_placement.proofs.unplaced.unplaced_breach.Given as goal

-- what the interfaces so far show
abbrev pub invariant-interfaces : goal.invariant-interfaces
invariant-interfaces l = (entries : List Entry) → Knows l.certificate l.places entries →
    IsLeast (Below (λ iface. ShowsUnplaced entries (length l.certificate.lanes) (length l.certificate.drops) (interface_at (taken l.intake) iface)) l.iface) l.least
