use Rattle.std.proofs.Common.{◌≡◌, sym, ◌∙◌, subst}
use Rattle.std.proofs.lemmas.Option.{same_Some}
use Rattle.audit_model.specs.declared.sighting.Sighting.{Sighting}
use Rattle.audit_sightings.specs.Intake.{taken}
use Rattle.audit_faults.specs.Grants.{Succeeds}
use Rattle.audit_faults.proofs.allocated.is_allocated_by.Goals as goal

pub allocated_by-requires-clause-captured : goal.allocated_by-requires-clause-captured
allocated_by-requires-clause-captured c = (c.args.sight, sym c.in-Some.ensures)

pub returns-clause-all : goal.returns-clause-all
returns-clause-all c success request there captured r h =
    let same : success ≡ c.in-Some.success.now = same_Some success c.in-Some.success.now (sym there ∙ sym c.in-Some.ensures) in
    c.allocated_by.ensures.all request captured r (subst (λ (s : Sighting). Succeeds (taken c.args.intake.now).policy c.args.grant.now c.args.arrival.now request s) same h)
