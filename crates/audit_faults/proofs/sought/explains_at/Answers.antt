use Rattle.std.proofs.Common.{◌≡◌, sym, ◌∙◌, subst}
use Rattle.std.proofs.lemmas.Option.{same_Some}
use Rattle.audit_model.specs.declared.sighting.Sighting.{Sighting}
use Rattle.audit_keys.specs.KeyFor.{key_for}
use Rattle.audit_sightings.specs.Intake.{taken}
use Rattle.audit_faults.specs.Explains.{Explains}
use Rattle.audit_faults.proofs.sought.explains_at.Goals as goal

pub returns : goal.returns
returns c = (
  λ t. (c.in-Some.arrival.now, sym c.in-Some.ensures, c.explains_by_leases.ensures.0 t),
  λ e.
      let same : e.0 ≡ c.in-Some.arrival.now = same_Some e.0 c.in-Some.arrival.now (sym e.1 ∙ sym c.in-Some.ensures) in
      c.explains_by_leases.ensures.1 (subst (λ (s : Sighting). Explains (taken c.args.intake.now) (key_for c.args.credentials.now) c.args.fault s c.args.departure.now) same e.2),
)
