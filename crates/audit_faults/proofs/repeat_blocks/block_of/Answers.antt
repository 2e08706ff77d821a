use Rattle.std.proofs.Common.{◌≡◌, ◌-◌, Some, length, arith, refl}
use Rattle.std.specs.Prelude.{slice_get}
use Rattle.std.proofs.lemmas.Option.{slice_get_read}
use Rattle.audit_sightings.specs.Intake.{taken}
use Rattle.audit_faults.proofs.repeat_blocks.block_of.Goals as goal

pub merges-preserved : goal.merges-preserved
merges-preserved c =
    let blocks = c.args.blocks.now in
    let first = c.merges.block.first in
    let listed = c.in-Some.ensures.lookup in
    let at : slice_get blocks (first - 1) ≡ Some c.in-Some.before.now = slice_get_read blocks (length blocks) (first - 1) c.in-Some.before.now refl listed.3.0 listed.1 in
    c.joined-block.ensures.joined (taken c.args.intake.now) c.args.places.now c.args.place (omega (arith, c.merges-test.true)) (c.requires.listed (first - 1) c.in-Some.before.now at) c.merges.invariant
