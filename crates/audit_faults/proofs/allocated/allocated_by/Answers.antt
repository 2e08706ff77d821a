use Rattle.std.proofs.Common.{◌≡◌, ℕ, List, true, false, sym, ◌∙◌, ap, subst, arith}
use Rattle.audit_model.specs.declared.sighting.Sighting.{Sighting}
use Rattle.audit_stun.specs.declared.class.Class.TheVariants.{Success}
use Rattle.audit_stun.specs.declared.numbers.method.TheConstants.{ALLOCATE}
use Rattle.audit_stun.specs.Parts.{parts_of}
use Rattle.audit_rules.specs.Situation.{IsOf}
use Rattle.audit_sightings.specs.Intake.{taken}
use Rattle.audit_faults.specs.Grants.{Requests, Succeeds}
use Rattle.audit_faults.specs.Leased.{allocate_key, IsRequestBy}
use Rattle.audit_faults.proofs.Keying.{none_at_end, none_down, none_of_key}
use Rattle.audit_faults.proofs.Leasing.{requests_allocation, allocate_has_key}
use Rattle.audit_faults.proofs.allocated.allocated_by.Goals as goal

pub returns-in_default-clause-all : goal.returns-in_default-clause-all
returns-in_default-clause-all c request captured r h =
    let allocates = requests_allocation (taken c.args.intake.now) c.args.grant.now c.args.arrival.now c.args.departure.now c.args.relayed request c.requires.lease r in
    let of : IsOf c.args.success.now.payload Success ALLOCATE = (h.succeeds.0, h.succeeds.1, h.succeeds.2 ∙ allocates.2) in
    absurd (c.in_default.ensures (subst (λ (p : List ℕ). IsOf p Success ALLOCATE) (sym c.as_slice.ensures) of))

pub places-init : goal.places-init
places-init c = record {
  bound = c.span_of_key-span.ensures.past;
  none = none_at_end (taken c.args.intake.now) (λ (s : Sighting). Requests (taken c.args.intake.now).policy c.args.grant.now c.args.arrival.now c.args.departure.now s × Succeeds (taken c.args.intake.now).policy c.args.grant.now c.args.arrival.now s c.args.success.now)
      c.allocate_key-key.result 0 c.last_of-last.result c.args.requests_by_key.places.now c.span_of_key-span.result.first c.span_of_key-span.result.past (c.span_of_key-span.ensures.has c.requires.requests_by_key.sorted);
}

pub places-preserved : goal.places-preserved
places-preserved c =
    let test = c.places-test.true in
    let bound = c.places.invariant.bound in
    record {
      bound = omega (arith, bound);
      none = none_down (taken c.args.intake.now) (λ (s : Sighting). Requests (taken c.args.intake.now).policy c.args.grant.now c.args.arrival.now c.args.departure.now s × Succeeds (taken c.args.intake.now).policy c.args.grant.now c.args.arrival.now s c.args.success.now)
          c.allocate_key-key.result 0 c.last_of-last.result c.args.requests_by_key.places.now c.places.place _ (omega (arith, test)) bound c.places.invariant.none
          (λ s there p. let k : true ≡ false = sym (c.is_request_at.ensures.1 (s, there, p.0, p.1)) ∙ c.if-is_request_at.false in cc);
    }

pub returns-then-is_request_at-clause-some : goal.returns-then-is_request_at-clause-some
returns-then-is_request_at-clause-some c _ = let e = c.is_request_at.ensures.0 c.if-is_request_at.true in (e.0, (_, e.1), (e.2, (c.args.success.now, c.requires.captured, e.3)))

pub returns-clause-all : goal.returns-clause-all
returns-clause-all c request captured r h =
    let test = c.places-test.false in
    let key : allocate_key c.args.grant.now.client (parts_of c.args.success.now.payload).tid ≡ c.allocate_key-key.result =
    ap (λ (p : List ℕ). allocate_key c.args.grant.now.client (parts_of p).tid) (sym (c.in-Some.ensures.0 ∙ c.as_slice.ensures)) ∙ sym c.allocate_key-key.ensures in
    let may = subst (λ (k : ℕ). IsRequestBy (taken c.args.intake.now) k request) key
    (allocate_has_key (taken c.args.intake.now) c.args.grant.now c.args.arrival.now c.args.departure.now c.args.relayed request c.args.success.now c.requires.lease c.requires.captured r h) in
    absurd (none_of_key (taken c.args.intake.now) (λ (s : Sighting). Requests (taken c.args.intake.now).policy c.args.grant.now c.args.arrival.now c.args.departure.now s × Succeeds (taken c.args.intake.now).policy c.args.grant.now c.args.arrival.now s c.args.success.now)
    c.allocate_key-key.result 0 c.last_of-last.result c.args.requests_by_key.places.now (IsRequestBy (taken c.args.intake.now)) c.args.requests_by_key.width c.span_of_key-span.result.first c.span_of_key-span.result.past c.places.place (c.span_of_key-span.ensures.has c.requires.requests_by_key.sorted)
    (omega (arith, test)) c.places.invariant.none c.requires.requests_by_key request captured may (λ narrow. (omega arith, c.last_of-last.ensures request.lo r.before h.after)) (r, h))
