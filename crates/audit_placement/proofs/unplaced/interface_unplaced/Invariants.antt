use Rattle.std.proofs.Common.{List, take}
use Rattle.audit_model.specs.Least.{IsLeast}
use Rattle.audit_placement.specs.declared.entry.Entry.{Entry}
use Rattle.audit_placement.specs.Places.{Knows}
use Rattle.audit_placement.specs.Shows.{ShowsUnplaced}
use Rattle.audit_placement.proofs.unplaced.interface_unplaced.Given as goal

-- what the sightings so far show
abbrev pub invariant-sightings : goal.invariant-sightings
invariant-sightings l = (entries : List Entry) → Knows l.certificate l.places entries →
    IsLeast (ShowsUnplaced entries l.lanes l.drops (take l.sighting-index l.sightings)) l.least
