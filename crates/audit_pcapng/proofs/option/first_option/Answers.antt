use Rattle.std.proofs.Common.{rules, ◌∙◌, sym, arith, length}
use Rattle.std.proofs.lemmas.Bool.{eqb-false, eqb-true}
use Rattle.std.specs.Option.{option_map}
use Rattle.audit_pcapng.specs.Options.{first_option}
use Rattle.audit_pcapng.proofs.OptionSteps.{no_more, none_left, too_short, ended, past_end_by, goes_on_by, found_in-nothing, fails}
use Rattle.audit_pcapng.proofs.option.first_option.Goals as goal
use Rattle.audit_pcapng.proofs.option.first_option.Goals.{else-loop-test, then-loop-test+then-is_empty, then-loop-test+else-is_empty+else-rest-lt-CODE_AND_LENGTH+then-option-eq-END_OF_OPTIONS}

pub loop-init : goal.loop-init
unfolding first_option
loop-init c = grind arith

pub returns-then-rest-lt-CODE_AND_LENGTH : goal.returns-then-rest-lt-CODE_AND_LENGTH
returns-then-rest-lt-CODE_AND_LENGTH c =
    let some = eqb-false _ _ (sym c.is_empty.ensures ∙ c.if-is_empty.false) in
    fails _ (length c.args.list.now) c.loop.counter c.args.order c.args.code (option_map (λ value. value.now) c.loop.found) c.loop.rest.now c.loop-test.true
    (λ m. too_short m c.args.order c.loop.rest.now some (omega arith)) c.loop.invariant

pub returns-then-from-whole : goal.returns-then-from-whole
returns-then-from-whole c =
    fails _ (length c.args.list.now) c.loop.counter c.args.order c.args.code (option_map (λ value. value.now) c.loop.found) c.loop.rest.now c.loop-test.true
    (λ m. past_end_by m c.args.order c.u16_at-option.result _ c.padded-whole.result c.loop.rest.now c.split_at.result.1.now
    c.u16_at-option.ensures (search rules) c.padded-whole.ensures c.split_at.ensures.back (omega arith) c.if-option-eq-END_OF_OPTIONS.false c.if-from-whole.true)
    c.loop.invariant

pub loop-preserved : goal.loop-preserved
loop-preserved c =
    goes_on_by _ (length c.args.list.now) c.loop.counter c.args.order c.args.code c.u16_at-option.result _ c.padded-whole.result
    (option_map (λ value. value.now) c.loop.found) (option_map (λ value. value.now) c.first_of-found.result) c.loop.rest.now c.split_at.result.1.now
    c.split_at-in-loop.result.0.now c.split_at-in-loop-2.result.1.now
    c.u16_at-option.ensures (search rules) c.padded-whole.ensures c.split_at.ensures.back c.split_at-in-loop.ensures.front c.split_at-in-loop-2.ensures.back
    c.first_of-found.ensures c.loop-test.true (omega arith) c.if-option-eq-END_OF_OPTIONS.false (omega arith) c.loop.invariant

pub returns : goal.returns
returns c =
    elim c.loop-test.branch [
      | else-loop-test w ↦ found_in-nothing _ c.args.code (option_map (λ value. value.now) c.loop.found) _ (no_more _ c.args.order c.loop.rest.now (omega arith)) c.loop.invariant
      | then-loop-test+then-is_empty w ↦ found_in-nothing _ c.args.code (option_map (λ value. value.now) c.loop.found) _
          (none_left _ c.args.order c.loop.rest.now (eqb-true _ _ (sym w.is_empty.ensures ∙ w.if-is_empty.true))) c.loop.invariant
      | then-loop-test+else-is_empty+else-rest-lt-CODE_AND_LENGTH+then-option-eq-END_OF_OPTIONS w ↦ found_in-nothing _ c.args.code (option_map (λ value. value.now) c.loop.found) _
          (ended _ c.args.order c.loop.rest.now (omega arith) (sym w.u16_at-option.ensures ∙ w.if-option-eq-END_OF_OPTIONS.true)) c.loop.invariant
    ]
