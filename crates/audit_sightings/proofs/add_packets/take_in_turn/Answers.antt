use Rattle.std.proofs.lemmas.Result.{err_from_is_err_and}
use Rattle.audit_sightings.proofs.StretchSteps.{stretch_stops, stretch_taken}
use Rattle.audit_sightings.proofs.add_packets.take_in_turn.Goals as goal

pub returns-in_err-take_together-clause-err : goal.returns-in_err-take_together-clause-err
returns-in_err-take_together-clause-err c =
    let p = err_from_is_err_and c.from_residual.result c.from_residual.ensures.1 in
    rw (p.1, p.2) (stretch_stops c.args.policy.now c.args.interfaces.now c.loop-number.interfaces c.take_together.new.interfaces c.args.file c.args.packets.now c.loop-number.number _ c.loop-number.invariant (rw c.part_of.ensures at c.in_err-take_together.ensures.err))

pub loop-number-preserved : goal.loop-number-preserved
loop-number-preserved c =
    stretch_taken c.args.policy.now c.args.interfaces.now c.loop-number.interfaces c.take_together.new.interfaces c.args.file c.args.packets.now c.loop-number.number c.loop-number.invariant (rw c.part_of.ensures at c.in_ok-take_together.ensures.ok)
