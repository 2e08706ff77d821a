use Rattle.std.proofs.Common.{All, length, Some, None}
use Rattle.audit_sightings.specs.Intake.{Taken}
use Rattle.audit_placement.specs.Pieces.{BreakNoRule, PieceBreaksNoRule}
use Rattle.audit_placement.proofs.pieces.add_lane.Given as goal

-- where the pieces so far break no rule, and the events that are left break none, the lane's break none
abbrev pub invariant-parts : goal.invariant-parts
invariant-parts l = (taken : Taken) → All (PieceBreaksNoRule taken) l.pieces.items
    → All (PieceBreaksNoRule taken) l.fn.pieces.items × (BreakNoRule taken (Some l.pair) l.last l.rest → BreakNoRule taken (Some l.pair) None l.events)

abbrev pub decreases-parts : goal.decreases-parts
decreases-parts l = length l.rest
