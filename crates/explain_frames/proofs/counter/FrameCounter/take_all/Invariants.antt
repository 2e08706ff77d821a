use Rattle.std.proofs.Common.{◌≡◌, take}
use Rattle.explain_frames.specs.Counting.{TakesIn}
use Rattle.explain_frames.proofs.counter.FrameCounter.take_all.Given as goal

abbrev pub invariant-packets : goal.invariant-packets
invariant-packets l = record {
  takes : TakesIn l.fn.self.policy.now l.fn.self.file l.fn.self.tally l.self.tally l.fn.frames l.frames (take l.packet-index l.packets);
  reader : l.self.reader ≡ l.fn.self.reader;
  policy : l.self.policy ≡ l.fn.self.policy;
  file : l.self.file ≡ l.fn.self.file;
}
