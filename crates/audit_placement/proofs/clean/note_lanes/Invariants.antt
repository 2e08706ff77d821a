use Rattle.std.proofs.Common.{take, []}
use Rattle.audit_sightings.specs.Intake.{taken}
use Rattle.audit_placement.specs.Clean.{IsClean}
use Rattle.audit_placement.specs.Entries.{lanes_entries}
use Rattle.audit_placement.specs.Keys.{key_at}
use Rattle.audit_placement.proofs.clean.note_lanes.Given as goal

-- the lanes so far are clean
abbrev pub invariant-lanes : goal.invariant-lanes
invariant-lanes l = IsClean (taken l.intake) (key_at l.fn.keys) [] → IsClean (taken l.intake) (key_at l.keys) (lanes_entries 0 (take l.lane-index l.lanes))
