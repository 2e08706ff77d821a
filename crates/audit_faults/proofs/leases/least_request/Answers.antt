use Rattle.std.proofs.Common.{subst}
use Rattle.audit_model.specs.Window.{later}
use Rattle.audit_faults.specs.declared.fault.Lease.{Lease}
use Rattle.audit_faults.specs.Grants.{MayLast}
use Rattle.audit_faults.proofs.leases.least_request.Goals as goal

pub returns-in-Permission : goal.returns-in-Permission
returns-in-Permission c lo hi lasts narrow =
    c.earlier.ensures lo hi (subst (λ (l : Lease). MayLast c.args.policy.now l (later hi c.args.policy.now.hold) c.args.arrival.now.lo) c.in-Permission.is lasts) narrow

pub returns-in-Channel : goal.returns-in-Channel
returns-in-Channel c lo hi lasts narrow =
    c.earlier-in-Channel.ensures lo hi (subst (λ (l : Lease). MayLast c.args.policy.now l (later hi c.args.policy.now.hold) c.args.arrival.now.lo) c.in-Channel.is lasts) narrow
