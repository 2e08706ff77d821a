use Rattle.std.proofs.Common.{codes}
use Rattle.std.proofs.lemmas.Result.{err_from_is_err_and}
use Rattle.std.specs.List.{flat_map}
use Rattle.audit_cert.specs.Spelling.{drop_line}
use Rattle.audit_cert.proofs.Writings.{stopped_first, puts_then}
use Rattle.audit_cert.proofs.writing.put_drops_on.Goals as goal

pub returns-in_err-put_drops : goal.returns-in_err-put_drops
returns-in_err-put_drops g c =
    let p = err_from_is_err_and c.from_residual.result c.from_residual.ensures.1 in
    rw (p.1, p.2) (stopped_first (flat_map drop_line c.args.drops.now) (codes "end\n") c.in_err-put_drops.field-0.0 _ c.in_err-put_drops.ensures)

pub returns : goal.returns
returns g c = puts_then (flat_map drop_line c.args.drops.now) (codes "end\n") c.put.result _ _ _ _ _ _ c.in_ok-put_drops.ensures c.put.ensures
