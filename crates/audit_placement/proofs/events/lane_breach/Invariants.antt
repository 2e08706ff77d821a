use Rattle.std.proofs.Common.{take, All, Some}
use Rattle.std.specs.Prelude.{IfNone}
use Rattle.audit_sightings.specs.Intake.{NamesWhatIsThere, taken}
use Rattle.audit_placement.proofs.Turns.{InTurn}
use Rattle.audit_placement.proofs.events.lane_breach.Given as goal

-- what the events so far show; with no breach they name what is there
abbrev pub invariant-events : goal.invariant-events
invariant-events l = record {
  turn : InTurn (taken l.intake) l.certificate l.fn.first l.first (Some l.pair) l.number (take l.place l.event-items) l.least l.last;
  named : IfNone l.least (All (NamesWhatIsThere (taken l.intake)) (take l.place l.event-items));
}
