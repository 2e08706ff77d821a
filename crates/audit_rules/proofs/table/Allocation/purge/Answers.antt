use Rattle.std.proofs.Common.{refl, rules}
use Rattle.audit_expiry.specs.Lease.{lasts}
use Rattle.audit_rules.proofs.table.Allocation.purge.Goals as goal

pub returns-clause-purged : goal.returns-clause-purged
returns-clause-purged c = record {
  relayed = refl;
  user = refl;
  id = refl;
  until = refl;
  permissions = c.retain.ensures (λ lease. lasts lease.until c.args.moment c.args.grace) (λ lease answer called. search rules);
  channels = c.retain-2.ensures (λ channel. lasts channel.lease.until c.args.moment c.args.grace) (λ channel answer called. search rules);
}
