use Rattle.std.proofs.Common.{◌≡◌, ◌≤◌, ◌-◌, ℕ, IsTrue, Some, length, arith, refl, rules, subst}
use Rattle.std.specs.Prelude.{slice_get}
use Rattle.std.proofs.lemmas.Option.{slice_get_read}
use Rattle.audit_model.specs.Window.{later}
use Rattle.audit_model.specs.declared.policy.Policy.{Policy}
use Rattle.audit_sightings.specs.Intake.{taken}
use Rattle.audit_faults.specs.RepeatBlocks.{IsBlock}
use Rattle.audit_faults.proofs.Repeating.{skip_block}
use Rattle.audit_faults.proofs.repeat_blocks.last_unrepeated.Goals as goal

pub skips-preserved-then-is_in_reach : goal.skips-preserved-then-is_in_reach
skips-preserved-then-is_in_reach c =
    let blocks = c.args.arrivals.blocks.now in
    let place = c.skips.place in
    let listed = c.in-Some.ensures.lookup in
    let at : slice_get blocks (place - 1) ≡ Some c.in-Some.block.now = slice_get_read blocks (length blocks) (place - 1) c.in-Some.block.now refl listed.3.0 listed.1 in
    let block = c.requires.listed (place - 1) c.in-Some.block.now at in
    let reach = c.is_in_reach.ensures c.if-is_in_reach.true in
    let near = subst (λ (p : Policy). c.args.departure.now.lo ≤ later c.in-Some.block.now.end p.hold) c.policy.ensures reach.2 in
    record {
      bound = omega (arith, block.inside, c.skips.invariant.bound);
      others = skip_block (taken c.args.intake.now) c.args.arrivals.by_key.places.now c.args.departure.now c.args.first place c.args.past c.in-Some.block.now (omega (arith, c.skips-test.true)) block reach.0 reach.1 near
          c.skips.invariant.others;
    }

pub skips-preserved : goal.skips-preserved
skips-preserved c =
    let taken = taken c.args.intake.now in
    let places = c.args.arrivals.by_key.places.now in
    let place = c.skips.place in
    let alone = c.block_at-alone.result in
    let number : c.in-Ok.number ≡ place - 1 = search rules in
    let block : IsBlock taken places (place - 1) alone = subst (λ (n : ℕ). IsBlock taken places n alone) number c.block_at-alone.ensures in
    let is : IsTrue c.is_in_reach-in-skips.result = search rules in
    let reach = c.is_in_reach-in-skips.ensures is in
    let near = subst (λ (p : Policy). c.args.departure.now.lo ≤ later alone.end p.hold) c.policy.ensures reach.2 in
    record {
      bound = omega (arith, c.skips.invariant.bound);
      others = λ k from below. skip_block taken places c.args.departure.now c.args.first place c.args.past alone (omega (arith, c.skips-test.true)) block reach.0 reach.1 near c.skips.invariant.others k
          (omega (arith, from, block.inside)) below;
    }
