use Rattle.std.proofs.Common.{◌+◌, List, All, ap, arith, length, map, refl, subst, sym, take}
use Rattle.std.specs.List.{AllZip}
use Rattle.std.proofs.lemmas.List.{take_all}
use Rattle.audit_model.specs.declared.event.Event.{Event}
use Rattle.std.proofs.lemmas.List.Elements.{All-push}
use Rattle.audit_keys.specs.KeyFor.{key_for}
use Rattle.audit_lane.specs.declared.input.LaneEvent.{LaneEvent}
use Rattle.audit_sightings.specs.Intake.{taken}
use Rattle.audit_lane.specs.Content.{Content, happening}
use Rattle.audit_lane.specs.Named.{IsFrom, IsInputOf}
use Rattle.audit_lane.specs.UserRows.{Tells}
use Rattle.audit_lane.specs.Users.{TellsItsUser}
use Rattle.audit_lane.proofs.Growing.{all_still_tell, grows_by_one}
use Rattle.audit_lane.proofs.Inputs.{all_tell, zip_more}
use Rattle.audit_lane.proofs.input.lane_input.Goals as goal

pub events-preserved : goal.events-preserved
events-preserved c =
    let key = key_for c.args.credentials.now in
    let old = c.events.users.items in
    let new = c.with_sightings.new.users.items in
    let grows = c.in_ok-with_sightings.ensures.grows in
    let events = c.events.events.items in
    let taken = taken c.args.intake.now in
    let same = c.as_slice-event-items.ensures in
    let event = c.in_ok-with_sightings.field-0 in
    let tell = All-push (TellsItsUser key new) events event (all_still_tell key old new grows events c.events.invariant.2) c.in_ok-with_sightings.ensures.user in (
      omega (arith, c.in_ok-push.ensures.len, c.events.invariant.0),
      omega (arith, grows_by_one old new grows, c.events.invariant.1),
      subst (λ (all : List LaneEvent). All (TellsItsUser key new) all) (sym c.in_ok-push.ensures.items) tell,
      subst (λ (all : List Event). AllZip (IsFrom taken) (take (c.events.event-index + 1) all) (map happening c.push.new.self.items)) same
          (zip_more (IsFrom taken) happening c.as_slice-event-items.result.now c.events.event-index _ events c.push.new.self.items event c.events-test.true c.in_ok-push.ensures.items
          (subst (λ (all : List Event). AllZip (IsFrom taken) (take c.events.event-index all) (map happening events)) (sym same) c.events.invariant.3) c.in_ok-with_sightings.ensures.from),
    )

pub returns-clause-users : goal.returns-clause-users
returns-clause-users c =
    let key = key_for c.args.credentials.now in
    subst (λ (content : Content). All (Tells key content.users) content.events) (sym c.in_ok-new.ensures.ok)
    (all_tell key c.events.users.items c.events.events.items c.events.invariant.2)

pub returns-clause-of : goal.returns-clause-of
returns-clause-of c =
    let taken = taken c.args.intake.now in
    subst (λ (content : Content). IsInputOf taken c.args.number c.args.lane.now content) (sym c.in_ok-new.ensures.ok) (record {
      number' = refl;
      client = refl;
      listen = refl;
      policy = c.policy.ensures;
      events = subst (λ (all : List Event). AllZip (IsFrom taken) all (map happening c.events.events.items)) (take_all c.events.event-index c.args.lane.now.events (omega (arith, c.events-test.false, ap length c.as_slice-event-items.ensures))) c.events.invariant.3;
    })
