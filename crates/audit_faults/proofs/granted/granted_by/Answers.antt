use Rattle.std.proofs.Common.{◌≡◌, true, false, sym, ◌∙◌, subst, arith}
use Rattle.audit_model.specs.Window.{later}
use Rattle.audit_model.specs.declared.policy.Policy.{Policy}
use Rattle.audit_model.specs.declared.sighting.Sighting.{Sighting}
use Rattle.audit_sightings.specs.Intake.{taken}
use Rattle.audit_faults.specs.Grants.{IsGranted, MayLast}
use Rattle.audit_faults.specs.Leased.{IsRequestBy}
use Rattle.audit_faults.proofs.Keying.{none_at_end, none_down, none_of_key}
use Rattle.audit_faults.proofs.granted.granted_by.Goals as goal

pub places-init : goal.places-init
places-init c = record {
  bound = c.span_of_key-span.ensures.past;
  none = none_at_end (taken c.args.intake.now) (λ (s : Sighting). IsGranted (taken c.args.intake.now) c.args.grant.now c.args.arrival.now c.args.departure.now s) c.args.key c.least_request-first.result c.args.departure.now.hi
      c.args.listed.requests.places.now c.span_of_key-span.result.first c.span_of_key-span.result.past (c.span_of_key-span.ensures.has c.requires.requests.sorted);
}

pub places-preserved : goal.places-preserved
places-preserved c =
    let test = c.places-test.true in
    let bound = c.places.invariant.bound in
    record {
      bound = omega (arith, bound);
      none = none_down (taken c.args.intake.now) (λ (s : Sighting). IsGranted (taken c.args.intake.now) c.args.grant.now c.args.arrival.now c.args.departure.now s) c.args.key c.least_request-first.result c.args.departure.now.hi
          c.args.listed.requests.places.now c.places.place _ (omega (arith, test)) bound c.places.invariant.none
          (λ s there p. let k : true ≡ false = sym (c.is_granted_at.ensures.1 (s, there, p)) ∙ c.if-is_granted_at.false in cc);
    }

pub returns-then-is_granted_at-clause-some : goal.returns-then-is_granted_at-clause-some
returns-then-is_granted_at-clause-some c _ = let e = c.is_granted_at.ensures.0 c.if-is_granted_at.true in (e.0, (_, e.1), e.2)

pub returns-clause-all : goal.returns-clause-all
returns-clause-all c request captured may granted =
    let test = c.places-test.false in
    absurd (none_of_key (taken c.args.intake.now) (λ (s : Sighting). IsGranted (taken c.args.intake.now) c.args.grant.now c.args.arrival.now c.args.departure.now s) c.args.key c.least_request-first.result c.args.departure.now.hi
    c.args.listed.requests.places.now (IsRequestBy (taken c.args.intake.now)) c.args.listed.requests.width c.span_of_key-span.result.first c.span_of_key-span.result.past c.places.place (c.span_of_key-span.ensures.has c.requires.requests.sorted)
    (omega (arith, test)) c.places.invariant.none c.requires.requests request captured may (λ narrow. (c.least_request-first.ensures request.lo request.hi (subst (λ (p : Policy). MayLast p c.args.grant.now.lease (later request.hi p.hold) c.args.arrival.now.lo) (sym c.policy.ensures) granted.0.lasts) narrow.0, granted.0.before)) granted)
