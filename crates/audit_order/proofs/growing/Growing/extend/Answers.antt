use Rattle.std.proofs.Common.{◌≡◌, ap, refl, ◌∙◌, ◌++◌, map, length, arith}
use Rattle.audit_model.specs.EventCount.{event_count}
use Rattle.audit_sightings.specs.Intake.{taken}
use Rattle.audit_order.specs.Grown.{empty_lane}
use Rattle.audit_order.proofs.KeptSteps.{sound_still}
use Rattle.audit_order.proofs.PortionSteps.{count_empty}
use Rattle.audit_order.proofs.growing.Growing.extend.Goals as goal

pub returns-clause-count : goal.returns-clause-count
returns-clause-count c =
    let old = c.args.self.now.lanes.items in
    let pairs = c.args.extension.now.lanes in
    let lanes = c.in_ok-add_lanes.ensures.lanes ∙ ap (λ ps. old ++ map empty_lane ps) c.as_slice.ensures in
    let before : event_count c.add_lanes.new.self.lanes.items ≡ event_count old = ap event_count lanes ∙ count_empty old pairs in
    let after : event_count c.add_drops.new.self.lanes.items ≡ event_count c.add_events.new.self.lanes.items = ap event_count c.in_ok-add_drops.ensures.lanes in
    let size : length c.as_slice-2.result.now ≡ length c.args.extension.now.events = ap length c.as_slice-2.ensures in
    omega (arith, before, after, size, c.in_ok-add_events.ensures.count)

pub returns-clause-sound : goal.returns-clause-sound
returns-clause-sound c = λ before stays sound.
    let grown = sound_still before (taken c.args.intake.now) c.args.self.now
    (record { lanes = c.args.self.now.lanes; drops = c.args.self.now.drops; keys = c.grow.new.self; count = c.args.self.now.count; clean = c.args.self.now.clean })
    stays c.grow.ensures refl refl refl refl sound in
    c.in_ok-add_drops.ensures.sound (c.in_ok-add_events.ensures.sound (c.in_ok-add_lanes.ensures.sound (taken c.args.intake.now) grown))
