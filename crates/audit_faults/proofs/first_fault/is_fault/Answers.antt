use Rattle.std.proofs.Common.{◌≡◌, Bool, true, false, refl, sym, ◌∙◌, subst}
use Rattle.std.specs.Prelude.{not}
use Rattle.std.proofs.lemmas.Option.{same_Some}
use Rattle.audit_model.specs.declared.sighting.Sighting.{Sighting}
use Rattle.audit_keys.specs.KeyFor.{key_for}
use Rattle.audit_sightings.specs.Intake.{taken}
use Rattle.audit_faults.specs.Explains.{Explains}
use Rattle.audit_faults.proofs.first_fault.is_fault.Goals as goal

not_both : (b : Bool) → not b ≡ true → b ≡ true → ⊥
not_both true h k = let e : false ≡ true = h in cc
not_both false h k = let e : false ≡ true = k in cc

not_where : (b : Bool) → (b ≡ true → ⊥) → not b ≡ true
not_where true h = absurd (h refl)
not_where false h = refl

pub returns : goal.returns
returns c = (
  λ t. record {
    departure = c.args.departure.now;
    there = c.requires.there;
    leaves = c.requires.leaves;
    by_none = λ arrival captured explains. not_both c.is_explained.result t (c.is_explained.ensures.1 (arrival, captured, explains));
  },
  λ f.
      let same : f.departure ≡ c.args.departure.now = same_Some f.departure c.args.departure.now (sym f.there ∙ c.requires.there) in
      not_where c.is_explained.result (λ h.
      let e = c.is_explained.ensures.0 h in
      f.by_none e.0 e.1 (subst (λ (s : Sighting). Explains (taken c.args.intake.now) (key_for c.args.credentials.now) c.args.fault e.0 s) (sym same) e.2)),
)
