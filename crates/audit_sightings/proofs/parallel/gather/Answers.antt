use Rattle.std.proofs.Common.{◌++◌, map}
use Rattle.audit_pcapng.specs.Packets.{packet_of}
use Rattle.audit_sightings.proofs.AmidMore.{begins_at, begins_read, gathered_one}
use Rattle.audit_sightings.proofs.parallel.gather.Goals as goal

pub returns-in_err-packet-clause-begins : goal.returns-in_err-packet-clause-begins
returns-in_err-packet-clause-begins c = λ text before at.
    begins_at c.steps.reader text (before ++ map packet_of c.steps.packets.items) c.steps.rest.now (c.steps.invariant text before at)

pub returns-in_err-push-clause-begins : goal.returns-in_err-push-clause-begins
returns-in_err-push-clause-begins c = λ text before at.
    rw c.in_err-push.ensures.items (begins_at c.steps.reader text (before ++ map packet_of c.steps.packets.items) c.steps.rest.now (c.steps.invariant text before at))

pub steps-preserved : goal.steps-preserved
steps-preserved c = λ text before at.
    let so_far = before ++ map packet_of c.steps.packets.items in
    let gave = rw c.in-Some.is at (c.in_ok-packet.ensures.packet text so_far (c.steps.invariant text before at)) in
    rw c.in_ok-push.ensures.items (gathered_one c.next.new.self text before c.steps.packets.items c.in-Some.packet c.in-Some.behind.now gave)

pub returns-clause-ok : goal.returns-clause-ok
returns-clause-ok c = λ text before at.
    rw c.in_default.is at (c.in_ok-packet.ensures.none text (before ++ map packet_of c.steps.packets.items) (c.steps.invariant text before at))

pub returns-clause-begins : goal.returns-clause-begins
returns-clause-begins c = λ text before at.
    begins_read c.next.new.self text (before ++ map packet_of c.steps.packets.items)
    (rw c.in_default.is at (c.in_ok-packet.ensures.none text (before ++ map packet_of c.steps.packets.items) (c.steps.invariant text before at)))
