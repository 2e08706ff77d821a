use Rattle.std.proofs.Common.{All, take}
use Rattle.audit_sightings.specs.Intake.{Taken}
use Rattle.audit_placement.specs.Pieces.{LaneBreaksNoRule, PieceBreaksNoRule}
use Rattle.audit_placement.proofs.pieces.pieces_of.Given as goal

-- where the pieces so far break no rule, the lanes so far break none
abbrev pub invariant-lanes : goal.invariant-lanes
invariant-lanes l = (taken : Taken) → All (PieceBreaksNoRule taken) l.pieces.items → All (LaneBreaksNoRule taken) (take l.lane-index l.lanes)
