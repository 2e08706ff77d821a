use Rattle.std.proofs.Common.{◌≡◌, ◌≤◌, ◌+◌, map}
use Rattle.audit_model.specs.EventCount.{event_count}
use Rattle.audit_model.specs.declared.certificate.TheConstants.{MAX_EVENTS}
use Rattle.audit_sightings.specs.Intake.{taken}
use Rattle.audit_finder.specs.Found.{pair_of, AllNamed}
use Rattle.audit_finder.specs.Departures.{IsNoted}
use Rattle.audit_finder.proofs.walking.walked.Given as goal

abbrev pub invariant-steps : goal.invariant-steps
invariant-steps l = (map pair_of l.filled.lanes.items ≡ l.pairs)
    × (event_count l.filled.lanes.items + l.filled.room ≤ MAX_EVENTS)
    × AllNamed (taken l.intake) l.filled.lanes.items
    × IsNoted l.filled.departed.rows.items l.filled.lanes.items
