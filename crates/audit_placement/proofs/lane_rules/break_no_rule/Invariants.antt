use Rattle.std.proofs.Common.{◌≡◌, take}
use Rattle.audit_sightings.specs.Intake.{taken}
use Rattle.audit_placement.specs.Pieces.{last_of, BreakNoRule}
use Rattle.audit_placement.proofs.lane_rules.break_no_rule.Given as goal

-- the events so far break no rule
abbrev pub invariant-events : goal.invariant-events
invariant-events l = record {
  last_key : l.last ≡ last_of l.start.last (take l.event-index l.events);
  held : BreakNoRule (taken l.intake) l.start.pair l.start.last (take l.event-index l.events);
}
