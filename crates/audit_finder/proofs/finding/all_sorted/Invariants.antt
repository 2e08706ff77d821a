use Rattle.std.proofs.Common.{◌≡◌, ◌++◌, All, length, map}
use Rattle.std.specs.Vec.Iter.{into_iter_items, into_iter_len}
use Rattle.audit_model.specs.declared.sighting.SightId.{SightId}
use Rattle.audit_model.specs.EventCount.{event_count}
use Rattle.audit_sightings.specs.Intake.{Taken}
use Rattle.audit_finder.specs.Found.{pair_of, AllNamed, KeysRise}
use Rattle.audit_finder.specs.Departures.{out_count}
use Rattle.audit_finder.proofs.finding.all_sorted.Given as goal

abbrev pub invariant-lanes : goal.invariant-lanes
invariant-lanes l = (map pair_of l.all.items ≡ map pair_of l.yielded)
    × (event_count l.all.items ≡ event_count l.yielded)
    × ((s : SightId) → out_count s l.all.items ≡ out_count s l.yielded)
    × All KeysRise l.all.items
    × ((taken : Taken) → AllNamed taken l.yielded → AllNamed taken l.all.items)
    × (l.yielded ++ into_iter_items l.lane-iterator ≡ into_iter_items l.initial.lane-iterator)
    × (into_iter_len l.lane-iterator ≡ length (into_iter_items l.lane-iterator))
