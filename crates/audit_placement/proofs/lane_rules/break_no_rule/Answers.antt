use Rattle.std.proofs.Common.{arith, subst}
use Rattle.std.proofs.lemmas.List.{take_all}
use Rattle.audit_sightings.specs.Intake.{taken}
use Rattle.audit_placement.specs.Pieces.{BreakNoRule}
use Rattle.audit_placement.proofs.PieceSteps.{last_more, no_rule_more}
use Rattle.audit_placement.proofs.lane_rules.break_no_rule.Goals as goal

pub events-preserved : goal.events-preserved
events-preserved c =
    let start = c.args.start in
    let items = c.args.events.now in
    let i = c.events.event-index in
    record {
      last_key = last_more start.last items i _ _ (omega arith) c.key.ensures;
      held = no_rule_more (taken c.args.intake.now) start.pair start.last c.events.last items i _ (omega arith) c.events.invariant.last_key
          c.events.invariant.held c.if-not-breaks_no_rule.ensures;
    }

pub returns : goal.returns
returns c =
    let start = c.args.start in
    subst (BreakNoRule (taken c.args.intake.now) start.pair start.last) (take_all c.events.event-index c.args.events.now (omega arith)) c.events.invariant.held
