use Rattle.std.proofs.Common.{◌∙◌, sym, arith}
use Rattle.audit_clients.proofs.Joining.{row_next, rows_done}
use Rattle.audit_clients.proofs.clients.join_unseen.Goals as goal

pub interfaces-preserved : goal.interfaces-preserved
interfaces-preserved c =
    let policy = c.args.intake.now.policy in
    let looked = c.args.looked.now in
    let rows = c.args.intake.now.interfaces in
    let i = c.interfaces.iface in
    rw (c.in_ok-join.ensures, c.policy.ensures)
    (row_next policy looked rows i c.interfaces.pairs c.behind.result.now (omega (arith, c.interfaces-test.true, c.interfaces-iface-end.ensures)) c.behind.ensures ∙ c.interfaces.invariant)

pub returns : goal.returns
returns c = sym (rows_done c.args.intake.now.policy c.args.looked.now c.args.intake.now.interfaces c.interfaces.iface c.interfaces.pairs (omega (arith, c.interfaces-test.false, c.interfaces-iface-end.ensures))) ∙ c.interfaces.invariant
