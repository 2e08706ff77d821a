use Rattle.std.proofs.Common.{ℕ, List, length, take}
use Rattle.audit_model.specs.Least.{IsLeast}
use Rattle.audit_sightings.specs.ByInterface.{IsNumbered}
use Rattle.audit_placement.specs.declared.entry.Entry.{Entry}
use Rattle.audit_placement.specs.FirstPlace.{Notes}
use Rattle.audit_placement.specs.Shows.{ShowsInterfaceOrder}
use Rattle.audit_placement.proofs.NeighbourSteps.{IsBefore}
use Rattle.audit_placement.proofs.neighbours.interface_breach.Given as goal

-- what the sightings so far show, and where the last of them is placed
abbrev pub invariant-sightings : goal.invariant-sightings
invariant-sightings l = (iface : ℕ) (entries : List Entry) → IsNumbered iface l.sightings → Notes l.certificate l.first entries →
    IsLeast (ShowsInterfaceOrder entries iface (length (take l.sighting-index l.sightings))) l.least × IsBefore entries iface l.sighting-index l.before
