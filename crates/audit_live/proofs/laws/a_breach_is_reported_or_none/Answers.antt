use Rattle.audit_sightings.specs.Intake.{taken as taken_of}
use Rattle.audit_live.proofs.OneResult.{not_both_results}
use Rattle.audit_live.proofs.laws.a_breach_is_reported_or_none.Goals as goal

pub returns : goal.returns
returns c key_for certificate breach =
    not_both_results (taken_of c.args.intake.now) key_for (λ sight s found. (c.sightings_are_bounded.ensures.fits sight s found).3) certificate breach
