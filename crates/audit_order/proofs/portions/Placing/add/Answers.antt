use Rattle.std.proofs.Common.{◌≡◌, ◌++◌, ◌+◌, ◌∙◌, ap, sym, subst, map, length, arith, length-append}
use Rattle.std.specs.List.{IsDistinct}
use Rattle.std.specs.Prelude.{IfNone}
use Rattle.std.proofs.lemmas.List.{length-map}
use Rattle.audit_model.specs.EventCount.{event_count}
use Rattle.audit_model.specs.Lanes.{same_lane}
use Rattle.audit_model.specs.Least.{IsLeast}
use Rattle.audit_sightings.specs.Intake.{taken}
use Rattle.audit_order.specs.Grown.{empty_lane, with_events}
use Rattle.audit_order.specs.Kept.{AreOfLanes}
use Rattle.audit_placement.specs.Named.{AllNamed}
use Rattle.audit_placement.specs.Shows.{ShowsPlaced}
use Rattle.audit_order.proofs.FittingSteps.{pairs_grown}
use Rattle.audit_order.proofs.PortionSteps.{apart_with, with_length}
use Rattle.audit_order.proofs.portions.Placing.add.Goals as goal

pub settle-requires-clause-apart : goal.settle-requires-clause-apart
settle-requires-clause-apart c =
    let extension = c.args.extension.now in
    let lanes = c.in_ok-extend.ensures.lanes ∙ ap (λ ls. with_events 0 (ls ++ map empty_lane extension.lanes) extension.events) c.growing-growing.ensures.lanes in
    subst (IsDistinct same_lane) (sym lanes) (apart_with 0 (c.args.self.now.certificate.lanes ++ map empty_lane extension.lanes) extension.events c.requires.apart)

pub settle-requires-clause-few_lanes : goal.settle-requires-clause-few_lanes
settle-requires-clause-few_lanes c =
    let extension = c.args.extension.now in
    let old = c.args.self.now.certificate.lanes in
    let lanes = c.in_ok-extend.ensures.lanes ∙ ap (λ ls. with_events 0 (ls ++ map empty_lane extension.lanes) extension.events) c.growing-growing.ensures.lanes in
    let size : length c.extend.new.self.lanes.items ≡ length (old ++ map empty_lane extension.lanes) = ap length lanes ∙ with_length 0 (old ++ map empty_lane extension.lanes) extension.events in
    omega (arith, size, length-append old (map empty_lane extension.lanes), length-map extension.lanes empty_lane, c.requires.room.few_lanes)

pub returns-in-Some-clause-breach : goal.returns-in-Some-clause-breach
returns-in-Some-clause-breach c = λ before kept stays.
    let sound = c.in_ok-extend.ensures.sound before stays (c.growing-growing.ensures.sound before kept) in
    subst (IsLeast (ShowsPlaced (taken c.args.intake.now) c.in_ok-settled.settled.certificate)) c.in-Some.is (c.in_ok-settled.ensures.least sound)

pub returns-in-None-clause-passes : goal.returns-in-None-clause-passes
returns-in-None-clause-passes c = λ before kept stays.
    let sound = c.in_ok-extend.ensures.sound before stays (c.growing-growing.ensures.sound before kept) in
    subst (IsLeast (ShowsPlaced (taken c.args.intake.now) c.in_ok-settled.settled.certificate)) c.in-None.is (c.in_ok-settled.ensures.least sound)

pub returns-in-None-clause-named : goal.returns-in-None-clause-named
returns-in-None-clause-named c = λ before kept stays.
    let sound = c.in_ok-extend.ensures.sound before stays (c.growing-growing.ensures.sound before kept) in
    subst (λ least. IfNone least (AllNamed (taken c.args.intake.now) c.in_ok-settled.settled.certificate)) c.in-None.is (c.in_ok-settled.ensures.named sound)

pub returns-in-Some-clause-keeps : goal.returns-in-Some-clause-keeps
returns-in-Some-clause-keeps c = λ before kept stays.
    let sound = c.in_ok-extend.ensures.sound before stays (c.growing-growing.ensures.sound before kept) in
    let old = c.args.self.now.certificate in
    let extension = c.args.extension.now in
    let lanes = c.in_ok-settled.ensures.lanes ∙ c.in_ok-extend.ensures.lanes ∙ ap (λ ls. with_events 0 (ls ++ map empty_lane extension.lanes) extension.events) c.growing-growing.ensures.lanes in
    let known = subst (λ ps. AreOfLanes ps old.lanes) (sym c.growing-growing.ensures.pairs) kept.pairs in
    let paired = subst (λ ps. AreOfLanes c.add_pairs.new.pairs (old.lanes ++ map empty_lane ps)) c.as_slice.ensures (c.in_ok-add_pairs.ensures old.lanes known) in
    let count : event_count c.in_ok-settled.settled.certificate.lanes ≡ event_count old.lanes + length extension.events =
    ap event_count c.in_ok-settled.ensures.lanes ∙ c.in_ok-extend.ensures.count ∙ ap (λ ls. event_count ls + length extension.events) c.growing-growing.ensures.lanes in
    let drops : length c.in_ok-settled.settled.certificate.drops ≡ length old.drops + length extension.drops =
    ap length (c.in_ok-settled.ensures.drops ∙ c.in_ok-extend.ensures.drops ∙ ap (λ ds. ds ++ extension.drops) c.growing-growing.ensures.drops) ∙ length-append old.drops extension.drops in
    record {
      places = c.in_ok-settled.ensures.places sound;
      count = c.in_ok-settled.ensures.count sound;
      events = omega (arith, c.saturating_add-self.ensures, c.saturating_add.ensures, c.len.ensures, c.len-2.ensures, c.growing-growing.ensures.events, kept.events, count, drops, c.requires.room.few_events);
      pairs = pairs_grown c.add_pairs.new.pairs (old.lanes ++ map empty_lane extension.lanes) c.in_ok-settled.settled.certificate.lanes extension.events lanes paired;
    }

pub returns-in-None-clause-keeps : goal.returns-in-None-clause-keeps
returns-in-None-clause-keeps c = λ before kept stays.
    let sound = c.in_ok-extend.ensures.sound before stays (c.growing-growing.ensures.sound before kept) in
    let old = c.args.self.now.certificate in
    let extension = c.args.extension.now in
    let lanes = c.in_ok-settled.ensures.lanes ∙ c.in_ok-extend.ensures.lanes ∙ ap (λ ls. with_events 0 (ls ++ map empty_lane extension.lanes) extension.events) c.growing-growing.ensures.lanes in
    let known = subst (λ ps. AreOfLanes ps old.lanes) (sym c.growing-growing.ensures.pairs) kept.pairs in
    let paired = subst (λ ps. AreOfLanes c.add_pairs.new.pairs (old.lanes ++ map empty_lane ps)) c.as_slice.ensures (c.in_ok-add_pairs.ensures old.lanes known) in
    let count : event_count c.in_ok-settled.settled.certificate.lanes ≡ event_count old.lanes + length extension.events =
    ap event_count c.in_ok-settled.ensures.lanes ∙ c.in_ok-extend.ensures.count ∙ ap (λ ls. event_count ls + length extension.events) c.growing-growing.ensures.lanes in
    let drops : length c.in_ok-settled.settled.certificate.drops ≡ length old.drops + length extension.drops =
    ap length (c.in_ok-settled.ensures.drops ∙ c.in_ok-extend.ensures.drops ∙ ap (λ ds. ds ++ extension.drops) c.growing-growing.ensures.drops) ∙ length-append old.drops extension.drops in
    record {
      places = c.in_ok-settled.ensures.places sound;
      count = c.in_ok-settled.ensures.count sound;
      events = omega (arith, c.saturating_add-self.ensures, c.saturating_add.ensures, c.len.ensures, c.len-2.ensures, c.growing-growing.ensures.events, kept.events, count, drops, c.requires.room.few_events);
      pairs = pairs_grown c.add_pairs.new.pairs (old.lanes ++ map empty_lane extension.lanes) c.in_ok-settled.settled.certificate.lanes extension.events lanes paired;
    }
