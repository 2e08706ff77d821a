use Rattle.std.proofs.Common.{◌≡◌, ◌≤◌, ◌+◌, All, map}
use Rattle.audit_model.specs.EventCount.{event_count}
use Rattle.audit_sightings.specs.Intake.{Taken, NamesWhatIsThere}
use Rattle.audit_finder.specs.Found.{pair_of, AllNamed}
use Rattle.audit_finder.specs.Departures.{IsNoted}
use Rattle.audit_finder.proofs.filling.Filled.distribute.Given as goal

abbrev pub invariant-events : goal.invariant-events
invariant-events l = (map pair_of l.self.lanes.items ≡ map pair_of l.fn.self.lanes.items)
    × (event_count l.self.lanes.items + l.self.room ≤ event_count l.fn.self.lanes.items + l.fn.self.room)
    × ((taken : Taken) → All (λ e. NamesWhatIsThere taken e.1) l.events → AllNamed taken l.fn.self.lanes.items → AllNamed taken l.self.lanes.items)
    × (IsNoted l.fn.self.departed.rows.items l.fn.self.lanes.items → IsNoted l.self.departed.rows.items l.self.lanes.items)
