use Rattle.audit_model.specs.declared.sighting.Sighting.{Sighting}
use Rattle.audit_keys.specs.KeyFor.{key_for}
use Rattle.audit_sightings.specs.Intake.{taken}
use Rattle.audit_faults.specs.Explains.{Explains}
use Rattle.audit_faults.proofs.Pairing.{NoneBelow}
use Rattle.audit_faults.proofs.explained_by_keys.explained_by_partners.Given as goal

-- no arrival of a partner before this one explains it
abbrev pub invariant-partners : goal.invariant-partners
invariant-partners l = NoneBelow (taken l.intake) (λ (s : Sighting). Explains (taken l.intake) (key_for l.credentials) l.fault s l.departure) l.arrivals.pairs.now l.key l.number l.least

abbrev pub decreases-partners : goal.decreases-partners
decreases-partners l = l.steps
