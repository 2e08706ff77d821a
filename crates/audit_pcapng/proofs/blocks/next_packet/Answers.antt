use Rattle.std.proofs.Common.{[], ◌∷◌, arith}
use Rattle.audit_pcapng.specs.Packets.{packet_of}
use Rattle.audit_pcapng.proofs.Prefixes.{shown_as}
use Rattle.audit_pcapng.proofs.Texts.{one_more, cut_by_end}
use Rattle.audit_pcapng.proofs.Stepping.{adds_none, adds_one}
use Rattle.audit_pcapng.proofs.blocks.next_packet.Goals as goal

pub returns-in-Some-2-clause-ok : goal.returns-in-Some-2-clause-ok
returns-in-Some-2-clause-ok c =
    let shown = shown_as c.loop.scope.order c.order.result c.loop.rest.now c.in_ok-heading.field-0 c.in-Some.heading c.order.ensures c.in_ok-heading.ensures.exact c.in-Some.is in
    let long = (rw c.in-Some.is at c.in_ok-heading.ensures.long).0 in
    one_more c.args.scope.now c.loop.scope c.take_block.new.self c.args.bytes.now c.loop.rest.now c.split_at.result.0.now c.split_at.result.1.now c.in-Some.heading [] [] (packet_of c.in-Some-2.packet ∷ [])
    c.loop.invariant.consumed shown c.if-rest-heading.false long c.split_at.ensures.front c.split_at.ensures.back
    (adds_one c.loop.scope c.take_block.new.self c.in-Some.heading c.split_at.result.0.now c.in_ok-packet.field-0 c.in-Some-2.packet c.in_ok-packet.ensures c.in-Some-2.is)

pub loop-preserved : goal.loop-preserved
loop-preserved c =
    let shown = shown_as c.loop.scope.order c.order.result c.loop.rest.now c.in_ok-heading.field-0 c.in-Some.heading c.order.ensures c.in_ok-heading.ensures.exact c.in-Some.is in
    let long = (rw c.in-Some.is at c.in_ok-heading.ensures.long).0 in
    record {
      consumed = one_more c.args.scope.now c.loop.scope c.take_block.new.self c.args.bytes.now c.loop.rest.now c.split_at.result.0.now c.split_at.result.1.now c.in-Some.heading [] [] []
          c.loop.invariant.consumed shown c.if-rest-heading.false long c.split_at.ensures.front c.split_at.ensures.back
          (adds_none c.loop.scope c.take_block.new.self c.in-Some.heading c.split_at.result.0.now c.in_ok-packet.field-0 c.in_ok-packet.ensures c.in_default-2.is);
      fits = omega (arith, c.loop.invariant.fits, long, c.split_at.ensures.back_len);
    }

pub returns-clause-cut : goal.returns-clause-cut
returns-clause-cut c = cut_by_end c.loop.scope c.loop.rest.now (omega (arith, c.loop.invariant.fits))
