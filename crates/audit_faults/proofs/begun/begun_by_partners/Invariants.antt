use Rattle.audit_sightings.specs.Intake.{taken}
use Rattle.audit_faults.specs.Beginning.{Begins}
use Rattle.audit_faults.proofs.Pairing.{NoneBelow}
use Rattle.audit_faults.proofs.begun.begun_by_partners.Given as goal

-- no arrival of a partner before this one did
abbrev pub invariant-partners : goal.invariant-partners
invariant-partners l = NoneBelow (taken l.intake) (Begins (taken l.intake) l.fault l.left.hi l.departure) l.arrivals.pairs.now l.key l.number l.least

abbrev pub decreases-partners : goal.decreases-partners
decreases-partners l = l.steps
