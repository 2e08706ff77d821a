use Rattle.audit_machine.specs.Machine.{cut_of}
use Rattle.audit_machine.specs.Tables.{allocation_of}
use Rattle.audit_machine.proofs.ForgettingClients.{own_left, alike_left, was_there, forgets_client}
use Rattle.audit_machine.proofs.machine.Machine.forget_client.Goals as goal

pub returns-then-has_no_allocation-clause-segment : goal.returns-then-has_no_allocation-clause-segment
returns-then-has_no_allocation-clause-segment c key_for view excluded =
    let old = c.args.self.now in
    forgets_client old.policy key_for view (cut_of old excluded) (allocation_of c.drop_table.new.self)
    (alike_left old.tables c.drop_table.new.self c.args.pair c.drop_table.ensures old.policy.grace old.last (c.has_no_allocation.ensures.0 c.if-has_no_allocation.true))

pub returns-then-has_no_allocation-clause-consistent : goal.returns-then-has_no_allocation-clause-consistent
returns-then-has_no_allocation-clause-consistent c =
    let old = c.args.self.now in
    record {
      own = own_left old.tables c.drop_table.new.self c.args.pair c.drop_table.ensures c.requires.consistent.own;
      held = λ d a is u. c.requires.consistent.held d a (was_there old.tables c.drop_table.new.self c.args.pair c.drop_table.ensures d a is) u;
    }
