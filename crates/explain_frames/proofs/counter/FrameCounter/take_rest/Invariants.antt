use Rattle.std.proofs.Common.{◌≡◌, ℕ, Bool, List, length}
use Rattle.audit_model.specs.declared.sighting.SightId.{SightId}
use Rattle.audit_pcapng.specs.declared.packet.Packet.{Packet}
use Rattle.explain_frames.specs.Counting.{Amid}
use Rattle.explain_frames.proofs.counter.FrameCounter.take_rest.Given as goal

abbrev pub invariant-packets : goal.invariant-packets
invariant-packets l = record {
  amid : (text : List ℕ) (wanted : SightId → Bool) (packets_of : ℕ → List Packet) → Amid l.fn.self l.fn.frames text wanted packets_of l.fn.rest → Amid l.self l.frames text wanted packets_of l.rest;
  policy : l.self.policy ≡ l.fn.self.policy;
  file : l.self.file ≡ l.fn.self.file;
}

abbrev pub decreases-packets : goal.decreases-packets
decreases-packets l = length l.rest
