use Rattle.std.proofs.Common.{◌+◌, [], ◌∷◌, take, drop, map, length, List, get_or, Ok, None, sym, ap, subst, ◌∙◌, arith}
use Rattle.std.proofs.lemmas.Result.{err_from_is_err_and}
use Rattle.std.proofs.lemmas.List.{map-append, take_more, get_or-map, length-map}
use Rattle.audit_pcapng.specs.declared.packet.Packet.{Packet}
use Rattle.audit_pcapng.specs.declared.packet.PacketSlice.{PacketSlice}
use Rattle.audit_pcapng.specs.Packets.{packet_of}
use Rattle.audit_sightings.specs.ServiceDatagram.{service_datagram_of}
use Rattle.audit_sightings.specs.Sightings.{TakesIn}
use Rattle.audit_sightings.specs.Stretch.{IsOwned}
use Rattle.audit_sightings.proofs.AddPacketsSteps.{TakesIn-then, parts_or}
use Rattle.audit_sightings.proofs.Zipped.{no_packet}
use Rattle.audit_sightings.proofs.add_packets.take_stretch.Goals as goal

pub found-requires : goal.found-requires
found-requires c = omega (arith, ap length c.requires.read, length-map c.args.packets.now (λ (packet : PacketSlice). service_datagram_of c.args.policy.now (packet_of packet)), c.loop-i-test.true)

pub take_found-requires-clause-found : goal.take_found-requires-clause-found
take_found-requires-clause-found c =
    let read = λ (packet : PacketSlice). service_datagram_of c.args.policy.now (packet_of packet) in
    let at = ap (λ founds. get_or founds c.loop-i.i (Ok None)) c.requires.read ∙ get_or-map read c.args.packets.now c.loop-i.i no_packet (Ok None) c.loop-i-test.true in
    subst (λ found. IsOwned found c.found.result) at c.found.ensures

pub returns-in_err-take_found-clause-err : goal.returns-in_err-take_found-clause-err
returns-in_err-take_found-clause-err c =
    let packets = c.args.packets.now in
    let p = err_from_is_err_and c.from_residual.result c.from_residual.ensures.1 in
    rw (p.1, p.2) (record {
      before = map packet_of (take c.loop-i.i packets);
      packet = packet_of (get_or packets c.loop-i.i no_packet);
      after = map packet_of (drop (c.loop-i.i + 1) packets);
      parts = ap (map packet_of) (parts_or packets c.loop-i.i no_packet c.loop-i-test.true) ∙ map-append packet_of (take c.loop-i.i packets) (get_or packets c.loop-i.i no_packet ∷ drop (c.loop-i.i + 1) packets);
      taken = rw c.in_err-take_found.ensures.unchanged c.loop-i.invariant;
      refused = rw c.in_err-take_found.ensures.unchanged c.in_err-take_found.ensures.err;
    })

pub loop-i-preserved : goal.loop-i-preserved
loop-i-preserved c =
    let packets = c.args.packets.now in
    let next = get_or packets c.loop-i.i no_packet in
    let more = TakesIn-then c.args.policy.now c.args.interfaces.now c.loop-i.interfaces c.take_found.new.interfaces c.args.file (map packet_of (take c.loop-i.i packets)) (packet_of next ∷ []) c.loop-i.invariant c.in_ok-take_found.ensures.ok in
    subst (λ (ps : List Packet). TakesIn c.args.policy.now c.args.interfaces.now c.args.file ps c.take_found.new.interfaces)
    (sym (ap (map packet_of) (take_more packets c.loop-i.i no_packet c.loop-i-test.true) ∙ map-append packet_of (take c.loop-i.i packets) (next ∷ []))) more
