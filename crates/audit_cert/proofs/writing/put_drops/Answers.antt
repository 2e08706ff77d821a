use Rattle.std.proofs.lemmas.Result.{err_from_is_err_and}
use Rattle.std.proofs.Common.{arith}
use Rattle.audit_cert.specs.Spelling.{drop_line}
use Rattle.audit_cert.proofs.Blocks.{went_on, stopped_on}
use Rattle.audit_cert.proofs.writing.put_drops.Goals as goal

pub returns-in_err-put_drops_together : goal.returns-in_err-put_drops_together
returns-in_err-put_drops_together g c =
    let p = err_from_is_err_and c.from_residual.result c.from_residual.ensures.1 in
    rw (p.1, p.2) (stopped_on drop_line c.args.drops.now c.rounds.done c.min-end.result c.in_err-put_drops_together.field-0.0 _ _ _ _ _ _ (omega arith) c.rounds.invariant.went c.in_err-put_drops_together.ensures)

pub rounds-preserved : goal.rounds-preserved
rounds-preserved g c = record {
  within = omega arith;
  went = went_on drop_line c.args.drops.now c.rounds.done c.min-end.result _ _ _ _ _ _ (omega arith) c.rounds.invariant.went c.in_ok-put_drops_together.ensures;
}
