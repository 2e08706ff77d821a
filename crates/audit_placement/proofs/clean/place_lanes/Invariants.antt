use Rattle.std.proofs.Common.{All, take, []}
use Rattle.audit_sightings.specs.Intake.{Taken}
use Rattle.audit_placement.specs.Clean.{IsClean}
use Rattle.audit_placement.specs.Entries.{lanes_entries}
use Rattle.audit_placement.specs.Keys.{key_at}
use Rattle.audit_placement.specs.Pieces.{LaneBreaksNoRule}
use Rattle.audit_placement.proofs.clean.place_lanes.Given as goal

-- the lanes so far are clean, where all break no rule by themselves
abbrev pub invariant-lanes : goal.invariant-lanes
invariant-lanes l = (taken : Taken) → All (LaneBreaksNoRule taken) l.lanes → IsClean taken (key_at l.fn.keys) []
    → IsClean taken (key_at l.keys) (lanes_entries 0 (take l.lane-index l.lanes))
