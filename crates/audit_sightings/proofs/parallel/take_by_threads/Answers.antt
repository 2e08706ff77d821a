use Rattle.std.proofs.Common.{◌≡◌, ◌+◌, ◌/◌, length, arith, ◌∙◌, ap, sym}
use Rattle.std.proofs.lemmas.Bool.Decides.{nat_tests}
use Rattle.std.proofs.lemmas.Result.{err_from_is_err_and}
use Rattle.audit_sightings.specs.Stretch.{read_of, stretch_at}
use Rattle.audit_sightings.proofs.StretchSteps.{stretch_stops, stretch_taken, stretch_read, stretches_long}
use Rattle.audit_sightings.proofs.Zipped.{stops_first}
use Rattle.audit_sightings.proofs.parallel.take_by_threads.Goals as goal

pub returns-in_default-clause-err : goal.returns-in_default-clause-err
returns-in_default-clause-err g c = stops_first c.args.policy.now c.args.interfaces.now c.args.file c.args.packets.now (λ (none : length c.args.packets.now ≡ 0). absurd (grind (arith, nat_tests, none, c.if-is_empty.ensures, c.if-is_empty.false)))

pub index-requires : goal.index-requires
index-requires g c = omega (arith, stretches_long (λ number stretch. stretch ≡ read_of c.args.policy.now (stretch_at c.args.packets.now number)) (length c.args.packets.now / 2048 + 1) c.in-Ok.stretches.items c.in-Ok.ensures, c.loop-number-test.true)

pub take_stretch-requires-clause-read : goal.take_stretch-requires-clause-read
take_stretch-requires-clause-read g c =
    let read = stretch_read (λ number stretch. stretch ≡ read_of c.args.policy.now (stretch_at c.args.packets.now number)) (length c.args.packets.now / 2048 + 1) c.in-Ok.stretches.items c.loop-number.number _ c.in-Ok.ensures c.loop-number-test.true in
    c.index.ensures ∙ read ∙ ap (read_of c.args.policy.now) (sym c.part_of-part.ensures)

pub returns-in_err-take_stretch-clause-err : goal.returns-in_err-take_stretch-clause-err
returns-in_err-take_stretch-clause-err g c =
    let p = err_from_is_err_and c.from_residual.result c.from_residual.ensures.1 in
    rw (p.1, p.2) (stretch_stops c.args.policy.now c.args.interfaces.now c.loop-number.interfaces c.take_stretch.new.interfaces c.args.file c.args.packets.now c.loop-number.number _ c.loop-number.invariant (rw c.part_of-part.ensures at c.in_err-take_stretch.ensures.err))

pub loop-number-preserved : goal.loop-number-preserved
loop-number-preserved g c =
    stretch_taken c.args.policy.now c.args.interfaces.now c.loop-number.interfaces c.take_stretch.new.interfaces c.args.file c.args.packets.now c.loop-number.number c.loop-number.invariant (rw c.part_of-part.ensures at c.in_ok-take_stretch.ensures.ok)
