use Rattle.std.proofs.Common.{◌≡◌, sym, ◌∙◌, subst}
use Rattle.std.proofs.lemmas.Option.{same_Some}
use Rattle.audit_model.specs.declared.sighting.Sighting.{Sighting}
use Rattle.audit_sightings.specs.Intake.{taken}
use Rattle.audit_faults.specs.Shown.{IsWhen}
use Rattle.audit_faults.proofs.every.granted_when.Goals as goal

pub returns-then-is_of_lease : goal.returns-then-is_of_lease
returns-then-is_of_lease c = (
  c.is_of_lease.ensures.0 c.if-is_of_lease.true,
  λ departure there.
      let same : departure ≡ c.in-Some.departure.now = same_Some departure c.in-Some.departure.now (sym there ∙ sym c.in-Some.ensures) in
      subst (λ (s : Sighting). IsWhen (taken c.args.intake.now) c.args.fault s c.when.result) (sym same) c.when.ensures,
)
