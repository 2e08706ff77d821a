use Rattle.audit_machine.specs.Machine.{cut_of}
use Rattle.audit_machine.specs.Tables.{allocation_of}
use Rattle.audit_machine.proofs.ForgettingClients.{forgets_client}
use Rattle.audit_machine.proofs.Purging.{own_purged, alike_purged, held_purged}
use Rattle.audit_machine.proofs.machine.Machine.purge_client.Goals as goal

pub returns-clause-segment : goal.returns-clause-segment
returns-clause-segment c key_for view excluded =
    let old = c.args.self.now in
    forgets_client old.policy key_for view (cut_of old excluded) (allocation_of c.purge.new.self)
    (alike_purged old.last old.policy.grace old.tables c.purge.new.self c.args.pair c.purge.ensures.own c.purge.ensures.rest)

pub returns-clause-consistent : goal.returns-clause-consistent
returns-clause-consistent c =
    let old = c.args.self.now in
    record {
      own = own_purged old.last old.policy.grace old.tables c.purge.new.self c.args.pair c.purge.ensures.own c.purge.ensures.rest c.requires.consistent.own;
      held = held_purged old.last old.policy.grace old.tables c.purge.new.self c.args.pair c.purge.ensures.own c.purge.ensures.rest old.holders c.requires.consistent.held;
    }
