use Rattle.std.proofs.Common.{◌≡◌, ◌∷◌, [], ℕ, List, length, arith, rules, sym, subst, ap, length-append}
use Rattle.audit_sightings.specs.Intake.{taken}
use Rattle.audit_faults.specs.declared.repeat_blocks.RepeatBlock.{RepeatBlock}
use Rattle.audit_faults.specs.RepeatBlocks.{AreBlocks, IsBlock}
use Rattle.audit_faults.proofs.Repeating.{more_blocks, no_blocks}
use Rattle.audit_faults.proofs.repeat_blocks.blocks_of.Goals as goal

pub places-init : goal.places-init
places-init c = record {
  count = ap length c.in_ok-blocks.ensures.items;
  are = subst (AreBlocks (taken c.args.intake.now) c.args.places.now) (sym c.in_ok-blocks.ensures.items) (no_blocks (taken c.args.intake.now) c.args.places.now);
}

pub places-preserved : goal.places-preserved
places-preserved c =
    let taken = taken c.args.intake.now in
    let places = c.args.places.now in
    let blocks = c.places.blocks.items in
    let count : length blocks ≡ c.places.place = c.places.invariant.count in
    let block = c.block_of-block.result in
    let number : c.in-Ok.number ≡ c.places.place = search rules in
    let at : IsBlock taken places (length blocks) block = subst (λ (n : ℕ). IsBlock taken places n block) (omega (arith, number, count)) c.block_of-block.ensures in
    let items = c.in_ok-push.ensures.items in
    record {
      count = omega (arith, ap (λ (xs : List RepeatBlock). length xs) items, length-append blocks (block ∷ []), count);
      are = subst (AreBlocks taken places) (sym items) (more_blocks taken places blocks block c.places.invariant.are at);
    }
