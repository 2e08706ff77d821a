use Rattle.std.proofs.Common.{take, Some}
use Rattle.audit_sightings.specs.Intake.{taken}
use Rattle.audit_placement.specs.Keys.{key_at}
use Rattle.audit_placement.proofs.CleanTurns.{CleanTurn}
use Rattle.audit_placement.proofs.clean.note_lane.Given as goal

-- the events so far are clean
abbrev pub invariant-events : goal.invariant-events
invariant-events l = CleanTurn (taken l.intake) (key_at l.fn.keys) (key_at l.keys) (Some l.pair) (take l.event-index l.event-items) l.last
