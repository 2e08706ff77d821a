use Rattle.std.proofs.Common.{◌∙◌, ◌∷◌, [], take, List, subst, sym}
use Rattle.audit_pcapng.specs.declared.packet.Packet.{Packet}
use Rattle.explain_frames.specs.Counting.{TakesIn}
use Rattle.explain_frames.proofs.Going.{takes_then, taken_more}
use Rattle.explain_frames.proofs.counter.FrameCounter.take_all.Goals as goal

pub packets-preserved : goal.packets-preserved
packets-preserved c =
    let first = c.packets.invariant.takes in
    let one = rw (c.as_slice.ensures, c.packets.invariant.policy, c.packets.invariant.file) at c.in_ok-take.ensures.takes in
    record {
      takes = subst (λ (packets : List Packet). TakesIn c.args.self.now.policy.now c.args.self.now.file c.args.self.now.tally c.take.new.self.tally c.args.frames.now c.take.new.frames packets)
          (sym (taken_more c.args.packets.now c.packets.packet-index c.packet-item.result c.packets-test.true c.packet-item.is))
          (takes_then c.args.self.now.policy.now c.args.self.now.file c.args.self.now.tally c.packets.self.tally c.take.new.self.tally c.args.frames.now c.packets.frames c.take.new.frames
          (take c.packets.packet-index c.args.packets.now) (c.packet-item.result ∷ []) first one);
      reader = c.take.ensures.reader ∙ c.packets.invariant.reader;
      policy = c.take.ensures.policy ∙ c.packets.invariant.policy;
      file = c.take.ensures.file ∙ c.packets.invariant.file;
    }
