-- A lease that was ever granted, and the same without its end.
use Rattle.std.proofs.Common.{◌≡◌, ℕ, arith}
use Rattle.audit_model.specs.declared.policy.Policy.{Policy}
use Rattle.audit_model.specs.declared.sighting.Sighting.{Sighting}
use Rattle.audit_sightings.specs.Intake.{Taken}
use Rattle.audit_faults.specs.declared.fault.Grant.{Grant}
use Rattle.audit_faults.specs.declared.fault.Lease.{Lease}
use Rattle.audit_faults.specs.declared.fault.Lease.TheVariants.{Allocation, Permission, Channel}
use Rattle.audit_faults.specs.Beginning.{WasGranted}
use Rattle.audit_faults.specs.Grants.{HasGrant, MayLast}

-- by the first moment of all no lease is over
never_over : (policy : Policy) (lease : Lease) (moment needed : ℕ) → needed ≡ 0 → MayLast policy lease moment needed
never_over policy (Allocation relayed) moment needed e = tt
never_over policy (Permission ip) moment needed e = omega (arith, e)
never_over policy (Channel number peer) moment needed e = omega (arith, e)

module _ (taken : Taken) (grant : Grant) (always left : Sighting) where
  pub once_granted : HasGrant taken grant always left → WasGranted taken left.hi grant
  once_granted (request, captured, (requests, (success, there, answers))) = (
    request,
    captured,
    (
      success,
      there,
      record {
        arrives = requests.arrives;
        from = requests.from;
        to = requests.to;
        by = requests.before;
        for_lease = requests.for_lease;
        leaves = answers.leaves;
        back_from = answers.from;
        back_to = answers.to;
        after = answers.after;
        succeeds = answers.succeeds;
        same_id = answers.same_id;
        has_address = answers.has_address;
      },
    ),
  )

  pub granted_once : always.lo ≡ 0 → WasGranted taken left.hi grant → HasGrant taken grant always left
  granted_once e (request, captured, (success, there, by)) = (
    request,
    captured,
    (
      record {
        arrives = by.arrives;
        from = by.from;
        to = by.to;
        before = by.by;
        lasts = never_over taken.policy grant.lease _ always.lo e;
        for_lease = by.for_lease;
      },
      (
        success,
        there,
        record {
          leaves = by.leaves;
          from = by.back_from;
          to = by.back_to;
          after = by.after;
          lasts = never_over taken.policy grant.lease _ always.lo e;
          succeeds = by.succeeds;
          same_id = by.same_id;
          has_address = by.has_address;
        },
      ),
    ),
  )
