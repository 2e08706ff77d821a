use Rattle.std.proofs.Common.{◌≤◌, ◌+◌, sym, subst, arith}
use Rattle.audit_model.specs.declared.sighting.Sighting.{Sighting}
use Rattle.audit_keys.specs.KeyFor.{key_for}
use Rattle.audit_model.specs.Window.{later}
use Rattle.audit_model.specs.declared.policy.Policy.{Policy}
use Rattle.audit_sightings.specs.Intake.{taken}
use Rattle.audit_faults.specs.ArrivalKeys.{IsArrivalBy}
use Rattle.audit_faults.specs.Explains.{Explains}
use Rattle.audit_faults.proofs.Keying.{none_of_key}
use Rattle.audit_faults.proofs.Repeating.{earlier_at_end, earlier_past, explained_with_earlier, none_at_last}
use Rattle.audit_faults.proofs.sought.explained_by.Goals as goal

pub places-init : goal.places-init
places-init c = record {
  bound = c.span_of_key-span.ensures.past;
  none = earlier_at_end (taken c.args.intake.now) (λ (s : Sighting). Explains (taken c.args.intake.now) (key_for c.args.credentials.now) c.args.fault s c.args.departure.now) c.args.key c.earliest-first.result c.args.departure.now.hi
      c.span_of_key-span.result.first c.args.arrivals.by_key.places.now c.span_of_key-span.result.past (c.span_of_key-span.ensures.has c.requires.arrivals.keyed.sorted);
}

pub places-preserved : goal.places-preserved
places-preserved c =
    let taken = taken c.args.intake.now in
    let key_for = key_for c.args.credentials.now in
    let departure = c.args.departure.now in
    let keyed = c.args.arrivals.by_key.places.now in
    let first = c.span_of_key-span.result.first in
    let place = c.in-Some.place in
    record {
      bound = omega (arith, c.in-Some.ensures.place.1, c.places.invariant.bound);
      none = earlier_past taken (λ (s : Sighting). Explains taken key_for c.args.fault s departure) c.args.key c.earliest-first.result departure.hi first keyed c.places.past place c.in-Some.ensures.place.1 c.places.invariant.none
          (explained_with_earlier taken keyed departure first (place + 1) c.places.past c.in-Some.ensures.others key_for c.args.fault) (c.explains_from.ensures.none c.if-explains_from.false);
    }

pub returns-clause-all : goal.returns-clause-all
returns-clause-all c arrival captured may e =
    let taken = taken c.args.intake.now in
    let key_for = key_for c.args.credentials.now in
    let departure = c.args.departure.now in
    let keyed = c.args.arrivals.by_key.places.now in
    let first = c.span_of_key-span.result.first in
    let none = none_at_last taken (λ (s : Sighting). Explains taken key_for c.args.fault s departure) c.args.key c.earliest-first.result departure.hi first keyed c.places.past c.places.invariant.none
    (explained_with_earlier taken keyed departure first first c.places.past c.in_default.ensures.others key_for c.args.fault) in
    absurd (none_of_key taken (λ (s : Sighting). Explains taken key_for c.args.fault s departure) c.args.key c.earliest-first.result departure.hi keyed
    (IsArrivalBy taken.policy) c.args.arrivals.by_key.width first c.span_of_key-span.result.past none.0 (c.span_of_key-span.ensures.has c.requires.arrivals.keyed.sorted) none.1 none.2
    c.requires.arrivals.keyed arrival captured may (λ narrow. (c.earliest-first.ensures arrival.lo arrival.hi (subst (λ (p : Policy). departure.lo ≤ later arrival.hi p.hold) (sym c.policy.ensures) e.in_reach.1) narrow.0, e.in_reach.0)) e)
