use Rattle.std.proofs.Common.{◌≡◌, ◌<◌, inl, inr, Some, List, length, sym, subst, arith}
use Rattle.std.proofs.lemmas.Bool.{cases_lt}
use Rattle.audit_sightings.specs.Intake.{taken, sighting_at}
use Rattle.audit_faults.specs.declared.keyed.Keyed.{Keyed}
use Rattle.audit_faults.specs.Leased.{beginning_key}
use Rattle.audit_faults.proofs.Pairing.{kept_paired, same_place}
use Rattle.audit_faults.proofs.pairs.add_all.Goals as goal

pub places-preserved : goal.places-preserved
places-preserved c k one below inside is success there key client relayed allocates = elim (cases_lt k c.places.place) [
  | inl lt ↦ kept_paired c.places.pairs.items c.add_at.new.pairs.items client relayed c.in_ok-add_at.ensures.kept (c.places.invariant k one lt inside is success there key client relayed allocates)
  | inr ge ↦
      let places : List Keyed = c.args.answers.places.now in
      let here : k ≡ c.places.place = omega (arith, below, ge) in
      let same = same_place places k c.places.place _ one here (subst (λ n. n < length places) here inside) is in
      c.in_ok-add_at.ensures.here success (subst (λ (it : Keyed). sighting_at (taken c.args.intake.now) it.sight ≡ Some success) (sym same) there) (subst (λ (it : Keyed). it.key ≡ beginning_key success.to) (sym same) key) client relayed allocates
]

pub returns : goal.returns
returns c k one inside is success there key client relayed allocates = c.places.invariant k one (let t = c.places-test.false in omega (arith, t, inside)) inside is success there key client relayed allocates
