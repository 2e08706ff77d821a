use Rattle.std.proofs.Common.{sym, ap, ◌∙◌}
use Rattle.audit_packets.specs.View.{view}
use Rattle.audit_packets.specs.Reading as frame
use Rattle.audit_pcapng.specs.Packets.{packet_of}
use Rattle.explain_frames.proofs.OfService.{kept_seen}
use Rattle.explain_frames.proofs.counter.is_of_service.Goals as goal

pub returns-in-Udp : goal.returns-in-Udp
returns-in-Udp c = c.has_one_end.ensures
    ∙ sym (kept_seen c.args.policy.now (packet_of c.args.packet) (frame.Udp c.in-Udp.from c.in-Udp.to c.in-Udp.payload.now) (sym (ap view c.in-Udp.is) ∙ c.slice_datagram.ensures))

pub returns-in-Other : goal.returns-in-Other
returns-in-Other c = sym (kept_seen c.args.policy.now (packet_of c.args.packet) frame.Other (sym (ap view c.in-Other.is) ∙ c.slice_datagram.ensures))

pub returns-in-Fragment : goal.returns-in-Fragment
returns-in-Fragment c = sym (kept_seen c.args.policy.now (packet_of c.args.packet) (frame.Fragment _ _) (sym (ap view c.in-Fragment.is) ∙ c.slice_datagram.ensures))

pub returns-in-Cut : goal.returns-in-Cut
returns-in-Cut c = sym (kept_seen c.args.policy.now (packet_of c.args.packet) (frame.Cut _) (sym (ap view c.in-Cut.is) ∙ c.slice_datagram.ensures))
