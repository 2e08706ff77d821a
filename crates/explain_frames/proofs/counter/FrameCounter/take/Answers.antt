use Rattle.std.proofs.Common.{◌≡◌, ◌∙◌, ◌*◌, ◌+◌, ℕ, false, true, ap, arith, rules, is_some, refl}
use Rattle.std.proofs.lemmas.Result.{on_ok_weaker}
use Rattle.audit_model.specs.declared.sighting.SightId.{SightId}
use Rattle.audit_pcapng.specs.Packets.{packet_of}
use Rattle.explain_frames.specs.declared.frames.Frame.{Frame}
use Rattle.audit_sightings.specs.Sightings.{kept_in}
use Rattle.explain_frames.proofs.Framing.{on_ok, none_if, some_if, notes_as}
use Rattle.explain_frames.proofs.Going.{takes_other, takes_past, takes_noted, none_unkept, none_far}
use Rattle.explain_frames.proofs.counter.FrameCounter.take.Goals as goal

pub returns-then-not-is_of_service-clause-takes : goal.returns-then-not-is_of_service-clause-takes
returns-then-not-is_of_service-clause-takes c =
    let unkept : is_some (kept_in c.args.self.now.policy.now (packet_of c.args.packet)) ≡ false = search rules in
    on_ok c.note_unjudged_grants.result (takes_other c.args.self.now.policy.now c.args.self.now.file c.args.self.now.tally c.add_packet.new.self c.args.frames.now c.note_unjudged_grants.new.self (packet_of c.args.packet)
    c.add_packet.ensures.packets c.add_packet.ensures.sightings (c.note_unjudged_grants.ensures ∙ c.note_stamp.ensures)
    (none_unkept c.args.self.now.policy.now (packet_of c.args.packet) (none_if (kept_in c.args.self.now.policy.now (packet_of c.args.packet)) unkept)))

pub returns-then-packet-ge-INTERFACES-clause-takes : goal.returns-then-packet-ge-INTERFACES-clause-takes
returns-then-packet-ge-INTERFACES-clause-takes c =
    takes_other c.args.self.now.policy.now c.args.self.now.file c.args.self.now.tally c.add_packet.new.self c.args.frames.now c.note_stamp.new.self (packet_of c.args.packet)
    c.add_packet.ensures.packets c.add_packet.ensures.sightings c.note_stamp.ensures
    (none_far c.args.self.now.policy.now (packet_of c.args.packet) c.if-packet-ge-INTERFACES.true)

pub returns-then-before-ge-INDICES-clause-takes : goal.returns-then-before-ge-INDICES-clause-takes
returns-then-before-ge-INDICES-clause-takes c =
    let is_kept : is_some (kept_in c.args.self.now.policy.now (packet_of c.args.packet)) ≡ true = search rules in
    let kept = some_if (kept_in c.args.self.now.policy.now (packet_of c.args.packet)) is_kept in
    takes_past c.args.self.now.policy.now c.args.self.now.file c.args.self.now.tally c.add_sighting-before.new.self c.args.frames.now c.note_stamp.new.self (packet_of c.args.packet) kept.0 c.add_sighting-before.result kept.1
    c.if-packet-ge-INTERFACES.false (rw c.add_packet.ensures.sightings at c.add_sighting-before.ensures.before) (search rules)
    (c.add_sighting-before.ensures.packets ∙ c.add_packet.ensures.packets) (rw c.add_packet.ensures.sightings at c.add_sighting-before.ensures.sightings)
    c.if-before-ge-INDICES.true c.note_stamp.ensures

pub returns-clause-takes : goal.returns-clause-takes
returns-clause-takes c =
    let is_kept : is_some (kept_in c.args.self.now.policy.now (packet_of c.args.packet)) ≡ true = search rules in
    let kept = some_if (kept_in c.args.self.now.policy.now (packet_of c.args.packet)) is_kept in
    let iface : ℕ = c.from.result * 64 + c.args.packet.iface in
    let sight : SightId = record { iface = iface; index = c.add_sighting-before.result } in
    let frame : Frame = record { number = c.add_sighting-before.new.self.packets; stamp = c.args.packet.stamp } in
    let at : iface ≡ 64 * c.args.self.now.file + c.args.packet.iface = omega (arith, c.from.ensures) in
    on_ok_weaker c.note_frame.result (λ notes. takes_noted c.args.self.now.policy.now c.args.self.now.file c.args.self.now.tally c.add_sighting-before.new.self c.args.frames.now c.note_frame.new.self (packet_of c.args.packet) kept.0 c.add_sighting-before.result
    sight frame kept.1
    c.if-packet-ge-INTERFACES.false (rw c.add_packet.ensures.sightings at c.add_sighting-before.ensures.before) (search rules)
    (c.add_sighting-before.ensures.packets ∙ c.add_packet.ensures.packets) (rw c.add_packet.ensures.sightings at c.add_sighting-before.ensures.sightings)
    c.if-before-ge-INDICES.false (ap (λ (iface : ℕ). let s : SightId = record { iface = iface; index = c.add_sighting-before.result } in s) at) refl
    (notes_as c.note_stamp.new.self c.args.frames.now c.note_frame.new.self sight frame c.note_stamp.ensures notes)) c.note_frame.ensures
