use Rattle.std.proofs.Common.{◌≡◌, true, false, refl, sym, ◌∙◌, subst}
use Rattle.std.proofs.lemmas.Option.{same_Some}
use Rattle.audit_sightings.specs.Intake.{taken}
use Rattle.audit_faults.specs.Beginning.{HasBeginning}
use Rattle.audit_faults.proofs.every.lacks_beginning.Goals as goal

pub returns-then-was_begun : goal.returns-then-was_begun
returns-then-was_begun c = (
  λ h. absurd (let k : false ≡ true = h in cc),
  λ none. absurd (none c.in-Some.departure.now (sym c.in-Some.ensures) (c.was_begun.ensures.0 c.if-was_begun.true)),
)

pub returns : goal.returns
returns c = (
  λ _ departure there begins.
      let same : departure ≡ c.in-Some.departure.now = same_Some departure c.in-Some.departure.now (sym there ∙ sym c.in-Some.ensures) in
      let k : true ≡ false = sym (c.was_begun.ensures.1 (subst (HasBeginning (taken c.args.intake.now)) same begins)) ∙ c.if-was_begun.false in cc,
  λ _. refl,
)
