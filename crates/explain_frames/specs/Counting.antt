-- A counter that reads a file, and the frames that it records.
use Rattle.std.specs.Prelude.{◌≡◌, ℕ, Bool, ◌-◌, ◌^◌, ◌<◌, List, ◌++◌, length, min, slice_index_or}
use Rattle.audit_model.specs.declared.policy.Policy.{Policy}
use Rattle.audit_model.specs.declared.sighting.SightId.{SightId}
use Rattle.audit_pcapng.specs.declared.packet.Packet.{Packet}
use Rattle.audit_pcapng.specs.Readers.{StandsFor}
use Rattle.audit_pcapng.specs.Steps.{IsAt}
use Rattle.audit_sightings.specs.Sightings.{more_of}
use Rattle.explain_frames.specs.declared.counter.FrameCounter.{FrameCounter}
use Rattle.explain_frames.specs.declared.frames.Frames.{Frames}
use Rattle.explain_frames.specs.declared.tally.Tally.{Tally}
use Rattle.explain_frames.specs.FramesOf.{frames_of, Shows}

-- a count, saturated at 64 bits
abbrev pub counted : ℕ → ℕ
counted n = min n (2 ^ 64 - 1)

-- the packets so far, and of each interface the datagrams of the service
pub record Counts (policy : Policy) (tally : Tally) (packets : List Packet) : Type 0 where
  pub all : tally.packets ≡ counted (length packets)
  pub each : (number : ℕ) → number < 64 → slice_index_or tally.sightings.items number 0 ≡ counted (length (frames_of policy number packets))

-- packets of a file were read after those before them: they are counted, and shown
pub record TakesIn (policy : Policy) (file : ℕ) (old new : Tally) (asked noted : Frames) (packets : List Packet) : Type 0 where
  pub counts : (before : List Packet) → Counts policy old before → Counts policy new (before ++ packets)
  pub shows : (wanted : SightId → Bool) (packets_of : ℕ → List Packet) → Counts policy old (packets_of file) → Shows asked policy wanted packets_of
      → Shows noted policy wanted (more_of packets_of file packets)

-- the counter has read this text of its file, and the frames show the requested sightings of all
-- files so far
pub record Goes (counter : FrameCounter) (frames : Frames) (text : List ℕ) (wanted : SightId → Bool) (packets_of : ℕ → List Packet) : Type 0 where
  pub read : StandsFor counter.reader text (packets_of counter.file)
  pub counts : Counts counter.policy.now counter.tally (packets_of counter.file)
  pub shows : Shows frames counter.policy.now wanted packets_of

-- the same within a piece, whose rest is still to be read
pub record Amid (counter : FrameCounter) (frames : Frames) (text : List ℕ) (wanted : SightId → Bool) (packets_of : ℕ → List Packet) (rest : List ℕ) : Type 0 where
  pub more : List Packet
  pub read : IsAt counter.reader text (packets_of counter.file ++ more) rest
  pub counts : Counts counter.policy.now counter.tally (packets_of counter.file ++ more)
  pub shows : Shows frames counter.policy.now wanted (more_of packets_of counter.file more)

-- the text has more packets of the file, which are counted and shown
pub record Went (counter : FrameCounter) (frames : Frames) (text : List ℕ) (wanted : SightId → Bool) (packets_of : ℕ → List Packet) : Type 0 where
  pub more : List Packet
  pub goes : Goes counter frames text wanted (more_of packets_of counter.file more)
