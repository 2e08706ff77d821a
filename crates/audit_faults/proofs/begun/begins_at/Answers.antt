use Rattle.std.proofs.Common.{◌≡◌, sym, ◌∙◌, subst}
use Rattle.std.proofs.lemmas.Option.{same_Some}
use Rattle.audit_model.specs.declared.sighting.Sighting.{Sighting}
use Rattle.audit_sightings.specs.Intake.{taken}
use Rattle.audit_faults.specs.Beginning.{Begins}
use Rattle.audit_faults.proofs.begun.begins_at.Goals as goal

pub returns : goal.returns
returns c = (
  λ t. (c.in-Some.arrival.now, sym c.in-Some.ensures, c.begins.ensures.0 t),
  λ e.
      let same : e.0 ≡ c.in-Some.arrival.now = same_Some e.0 c.in-Some.arrival.now (sym e.1 ∙ sym c.in-Some.ensures) in
      c.begins.ensures.1 (subst (λ (s : Sighting). Begins (taken c.args.intake.now) c.args.fault c.args.left.now.hi c.args.departure.now s) same e.2),
)
