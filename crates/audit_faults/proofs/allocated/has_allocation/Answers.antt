use Rattle.std.proofs.Common.{◌≡◌, ℕ, true, false, refl, sym, ◌∙◌, subst, arith}
use Rattle.audit_sightings.specs.Intake.{taken}
use Rattle.audit_faults.specs.Leased.{IsAnswerBy}
use Rattle.audit_faults.proofs.Keying.{none_ahead, none_up, none_of_key_up}
use Rattle.audit_faults.proofs.Leasing.{IsAllocatedBy, allocation_has_key}
use Rattle.audit_faults.proofs.allocated.has_allocation.Goals as goal

pub places-init : goal.places-init
places-init c = record {
  order = omega arith;
  none = none_ahead (taken c.args.intake.now) (IsAllocatedBy (taken c.args.intake.now) c.args.grant.now c.args.arrival.now c.args.departure.now) c.relayed_key-key.result 0 18446744073709551615 c.args.listed.answers.places.now
      c.span_of_key-span.result.first c.span_of_key-span.result.past (c.span_of_key-span.ensures.has c.requires.listed.answers.sorted);
}

pub places-preserved : goal.places-preserved
places-preserved c =
    let test = c.places-test.true in
    let past = c.span_of_key-span.ensures.past in
    let order = c.places.invariant.order in
    record {
      order = omega (arith, order);
      none = none_up (taken c.args.intake.now) (IsAllocatedBy (taken c.args.intake.now) c.args.grant.now c.args.arrival.now c.args.departure.now) c.relayed_key-key.result 0 18446744073709551615 c.args.listed.answers.places.now c.places.place _ (omega (arith, test, past)) c.places.invariant.none
          (λ s there p. let k : true ≡ false = sym (c.is_allocated_by.ensures.all s p.0 there p.1 p.2 p.3) ∙ c.if-is_allocated_by.false in cc);
    }

pub returns-then-is_allocated_by : goal.returns-then-is_allocated_by
returns-then-is_allocated_by c = (λ _. c.is_allocated_by.ensures.some c.if-is_allocated_by.true, λ _. refl)

pub returns : goal.returns
returns c =
    let test = c.places-test.false in (
      λ h. absurd (let k : false ≡ true = h in cc),
      λ (request, captured, (r, (success, there, h))).
          let may = subst (λ (k : ℕ). IsAnswerBy k success) (sym c.relayed_key-key.ensures)
          (allocation_has_key (taken c.args.intake.now) c.args.grant.now c.args.arrival.now c.args.departure.now c.args.relayed request success c.requires.lease r h) in
          absurd (none_of_key_up (taken c.args.intake.now) (IsAllocatedBy (taken c.args.intake.now) c.args.grant.now c.args.arrival.now c.args.departure.now) c.relayed_key-key.result 0 18446744073709551615 c.args.listed.answers.places.now
          IsAnswerBy c.args.listed.answers.width c.span_of_key-span.result.first c.span_of_key-span.result.past c.places.place (c.span_of_key-span.ensures.has c.requires.listed.answers.sorted)
          (omega (arith, test)) c.places.invariant.none c.requires.listed.answers success there may (λ narrow. (omega arith, narrow.1)) (request, captured, r, h)),
    )
