use Rattle.std.proofs.Common.{take, Option, None}
use Rattle.audit_model.specs.declared.pair.Pair.{Pair}
use Rattle.audit_sightings.specs.Intake.{Taken}
use Rattle.audit_placement.specs.Pieces.{last_of, BreakNoRule}
use Rattle.audit_placement.specs.Keys.{key_at}
use Rattle.audit_placement.proofs.CleanTurns.{CleanTurn}
use Rattle.audit_placement.proofs.clean.place_lane.Given as goal

-- the events so far are clean, where the lane's break no rule by themselves
abbrev pub invariant-events : goal.invariant-events
invariant-events l = (taken : Taken) (pair : Option Pair) → BreakNoRule taken pair None l.event-items
    → CleanTurn taken (key_at l.fn.keys) (key_at l.keys) pair (take l.event-index l.event-items) (last_of None (take l.event-index l.event-items))
