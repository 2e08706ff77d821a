use Rattle.std.proofs.Common.{◌≡◌, ◌-◌, inl, inr, ℕ, true, false, List, sym, ◌∙◌, subst, arith}
use Rattle.std.specs.Prelude.{slice_index_or}
use Rattle.std.proofs.lemmas.Bool.{cases_lt}
use Rattle.audit_model.specs.declared.sighting.Sighting.{Sighting}
use Rattle.audit_keys.specs.KeyFor.{key_for}
use Rattle.audit_sightings.specs.Intake.{taken, interface_at}
use Rattle.audit_faults.specs.Explains.{Explains}
use Rattle.audit_faults.specs.Reach.{StandsAt}
use Rattle.audit_faults.proofs.Captured.{one_item}
use Rattle.audit_faults.proofs.first_fault.explained_among.Goals as goal

pub places-init : goal.places-init
places-init c = record {
  bound = c.span_in-span.ensures.past;
  none = λ k far x stands e. absurd (let near = c.span_in-span.ensures.out k x stands e.in_reach in omega (arith, near.1, far));
}

pub places-preserved : goal.places-preserved
places-preserved c =
    let row : List Sighting = interface_at (taken c.args.intake.now) c.args.iface in
    let test = c.places-test.true in
    let bound = c.places.invariant.bound in
    let here : c.index-row-place.result ≡ slice_index_or row (c.places.place - 1) c.index-row-place.result =
    subst (λ (xs : List Sighting). c.index-row-place.result ≡ slice_index_or xs (c.places.place - 1) c.index-row-place.result) c.interface-row.ensures.exact c.index-row-place.is in
    record {
      bound = omega (arith, bound);
      none = λ k far x stands h. elim (cases_lt k c.places.place) [
        | inr ge ↦ c.places.invariant.none k ge x stands h
        | inl lt ↦
            let at : k ≡ c.places.place - 1 = omega (arith, lt, far) in
            let stands' : StandsAt row (c.places.place - 1) x = subst (λ (i : ℕ). StandsAt row i x) at stands in
            let same : x ≡ c.index-row-place.result = one_item row (c.places.place - 1) x c.index-row-place.result stands'.0 stands'.1 here in
            let yes = c.explains.ensures.1 (subst (λ (s : Sighting). Explains (taken c.args.intake.now) (key_for c.args.credentials.now) c.args.fault s c.args.departure.now) same h) in
            let no' : true ≡ false = sym yes ∙ c.if-explains.false in cc
      ];
    }

pub returns : goal.returns
returns c = (
  λ h. absurd (let k : false ≡ true = h in cc),
  λ a.
      let stands : StandsAt (interface_at (taken c.args.intake.now) c.args.iface) a.0 a.1 = (a.2, a.3) in
      let near = c.span_in-span.ensures.out a.0 a.1 stands a.4.in_reach in
      let test = c.places-test.false in
      absurd (c.places.invariant.none a.0 (omega (arith, near.0, test)) a.1 stands a.4),
)
