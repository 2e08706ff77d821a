use Rattle.std.proofs.lemmas.Result.{err_from_is_err_and}
use Rattle.std.proofs.Common.{◌+◌, arith, length-drop}
use Rattle.audit_cert.specs.Pieces.{piece_text}
use Rattle.audit_cert.proofs.Blocks.{went_on, stopped_on}
use Rattle.audit_cert.proofs.parallel.put_pieces.Goals as goal

pub returns-in_err-put_block : goal.returns-in_err-put_block
returns-in_err-put_block g c =
    let p = err_from_is_err_and c.from_residual.result c.from_residual.ensures.1 in
    let end = c.rounds.done + c.fitting.result in
    rw (p.1, p.2) (stopped_on piece_text c.args.pieces.now c.rounds.done end c.in_err-put_block.field-0.0 _ _ _ _ _ _ (omega arith) c.rounds.invariant.went c.in_err-put_block.ensures)

pub rounds-preserved : goal.rounds-preserved
rounds-preserved g c = record {
  within = omega (arith, c.fitting.ensures.within, c.rounds.invariant.within, length-drop c.rounds.done c.args.pieces.now);
  went = went_on piece_text c.args.pieces.now c.rounds.done (c.rounds.done + c.fitting.result) _ _ _ _ _ _ (omega arith) c.rounds.invariant.went c.in_ok-put_block.ensures;
}
