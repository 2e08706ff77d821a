-- A file that is gone over, packet by packet and piece by piece.
use Rattle.std.proofs.Common.{◌≡◌, ℕ, ◌+◌, ◌^◌, ◌<◌, ◌≤◌, List, [], ◌∷◌, ◌++◌, length, Some, None, Bool, cond, refl, sym, ap, subst, ◌∙◌, arith, inl, inr, slice_get, slice_set, get_or, take, length-append, append_assoc}
use Rattle.std.proofs.lemmas.Bool.Decides.{eqb_tells}
use Rattle.std.proofs.lemmas.List.{append-nil, take_more, get_or-set_same, get_or-set_other}
use Rattle.audit_model.specs.declared.policy.Policy.{Policy}
use Rattle.audit_model.specs.declared.sighting.SightId.{SightId}
use Rattle.audit_pcapng.specs.declared.packet.Packet.{Packet}
use Rattle.audit_pcapng.specs.declared.packet.PacketSlice.{PacketSlice}
use Rattle.audit_pcapng.specs.Packets.{packet_of}
use Rattle.audit_pcapng.specs.Readers.{StandsFor}
use Rattle.audit_pcapng.specs.Steps.{IsAt, Begins, Gave}
use Rattle.audit_sightings.specs.ServiceDatagram.{ServiceDatagram}
use Rattle.audit_sightings.specs.Sightings.{kept_in, more_of}
use Rattle.explain_frames.specs.declared.frames.Frame.{Frame}
use Rattle.explain_frames.specs.declared.frames.Frames.{Frames}
use Rattle.explain_frames.specs.declared.tally.Tally.{Tally}
use Rattle.explain_frames.specs.FramesOf.{frame_of, frame_if, frames_of, sight_at, Shows}
use Rattle.explain_frames.specs.declared.counter.FrameCounter.{FrameCounter}
use Rattle.explain_frames.specs.Counting.{counted, Counts, TakesIn, Amid, Went}
use Rattle.explain_frames.proofs.Framing.{Notes, frame_if-other, frame_if-unkept, frame_if-kept, frames_of-none, frames_of-some, more_of-same, shows_same, shows_noted, shows_past, no_frames}

counted_more : (n : ℕ) → counted (counted n + 1) ≡ counted (n + 1)
counted_more n = omega arith

counted_push : (packets : List Packet) (packet : Packet) (before : ℕ) → before ≡ counted (length packets) → counted (before + 1) ≡ counted (length (packets ++ packet ∷ []))
counted_push packets packet before is = ap (λ (n : ℕ). counted (n + 1)) is ∙ counted_more (length packets) ∙ ap counted (sym (length-append packets (packet ∷ [])))

-- a packet that is no sighting of any interface
pub counts_other : (policy : Policy) (old new : Tally) (packet : Packet) → new.packets ≡ counted (old.packets + 1) → new.sightings ≡ old.sightings
    → ((number n : ℕ) → number < 64 → frame_if policy number (n, packet) ≡ None) → (before : List Packet) → Counts policy old before → Counts policy new (before ++ packet ∷ [])
counts_other policy old new packet packets same none before counts = record {
  all = packets ∙ counted_push before packet old.packets counts.all;
  each = λ number less. rw same (counts.each number less) ∙ ap (λ (fs : List Frame). counted (length fs)) (sym (frames_of-none policy number before packet (none number (1 + length before) less)));
}

-- one that is
pub counts_sighting : (policy : Policy) (old new : Tally) (packet : Packet) (kept : ServiceDatagram) (past : ℕ) → kept_in policy packet ≡ Some kept → packet.iface < 64
    → past ≡ get_or old.sightings.items packet.iface 0 → length old.sightings.items ≡ 64
    → new.packets ≡ counted (old.packets + 1) → new.sightings.items ≡ slice_set old.sightings.items packet.iface (counted (past + 1))
    → (before : List Packet) → Counts policy old before → Counts policy new (before ++ packet ∷ [])
counts_sighting policy old new packet kept past some within is sized packets items before counts = record {
  all = packets ∙ counted_push before packet old.packets counts.all;
  each = λ number less. rw items (elim (eqb_tells packet.iface number) [
    | inl here ↦ rw (sym here.1)
        (get_or-set_same old.sightings.items packet.iface (counted (past + 1)) 0 (omega (arith, within, sized))
        ∙ ap (λ (n : ℕ). counted (n + 1)) (is ∙ counts.each packet.iface within)
        ∙ counted_more (length (frames_of policy packet.iface before))
        ∙ ap counted (sym (length-append (frames_of policy packet.iface before) (frame_of (1 + length before) packet ∷ [])))
        ∙ ap (λ (fs : List Frame). counted (length fs)) (sym (frames_of-some policy packet.iface before packet (frame_of (1 + length before) packet) (frame_if-kept policy (1 + length before) packet kept some))))
    | inr ne ↦ get_or-set_other old.sightings.items packet.iface number (counted (past + 1)) 0 (λ e. ne.1 (sym e))
        ∙ counts.each number less ∙ ap (λ (fs : List Frame). counted (length fs)) (sym (frames_of-none policy number before packet (frame_if-other policy number (1 + length before) packet ne.1)))
  ]);
}

-- what is taken in of a packet
pub takes_other : (policy : Policy) (file : ℕ) (old new : Tally) (asked noted : Frames) (packet : Packet) → new.packets ≡ counted (old.packets + 1) → new.sightings ≡ old.sightings
    → noted.found ≡ asked.found → ((number n : ℕ) → number < 64 → frame_if policy number (n, packet) ≡ None) → TakesIn policy file old new asked noted (packet ∷ [])
takes_other policy file old new asked noted packet packets same found none = record {
  counts = counts_other policy old new packet packets same none;
  shows = λ wanted packets_of counts shows. shows_same asked noted policy wanted packets_of file packet
      (λ number less. frames_of-none policy number (packets_of file) packet (none number (1 + length (packets_of file)) less)) found shows;
}

pub none_unkept : (policy : Policy) (packet : Packet) → kept_in policy packet ≡ None → (number n : ℕ) → number < 64 → frame_if policy number (n, packet) ≡ None
none_unkept policy packet none number n less = frame_if-unkept policy number n packet none

pub none_far : (policy : Policy) (packet : Packet) → 64 ≤ packet.iface → (number n : ℕ) → number < 64 → frame_if policy number (n, packet) ≡ None
none_far policy packet far number n less = frame_if-other policy number n packet (λ e. omega (arith, far, less, e))

pub takes_past : (policy : Policy) (file : ℕ) (old new : Tally) (asked noted : Frames) (packet : Packet) (kept : ServiceDatagram) (past : ℕ) → kept_in policy packet ≡ Some kept → packet.iface < 64
    → past ≡ get_or old.sightings.items packet.iface 0 → length old.sightings.items ≡ 64
    → new.packets ≡ counted (old.packets + 1) → new.sightings.items ≡ slice_set old.sightings.items packet.iface (counted (past + 1))
    → 2 ^ 32 ≤ past → noted.found ≡ asked.found → TakesIn policy file old new asked noted (packet ∷ [])
takes_past policy file old new asked noted packet kept past some within is sized packets items far found = record {
  counts = counts_sighting policy old new packet kept past some within is sized packets items;
  shows = λ wanted packets_of counts shows. shows_past asked noted policy wanted packets_of file packet (frame_of (1 + length (packets_of file)) packet)
      (frame_if-kept policy (1 + length (packets_of file)) packet kept some) (omega (arith, far, is, counts.each packet.iface within)) found shows;
}

pub takes_noted : (policy : Policy) (file : ℕ) (old new : Tally) (asked noted : Frames) (packet : Packet) (kept : ServiceDatagram) (past : ℕ) (sight : SightId) (frame : Frame) → kept_in policy packet ≡ Some kept → packet.iface < 64
    → past ≡ get_or old.sightings.items packet.iface 0 → length old.sightings.items ≡ 64
    → new.packets ≡ counted (old.packets + 1) → new.sightings.items ≡ slice_set old.sightings.items packet.iface (counted (past + 1))
    → past < 2 ^ 32 → sight ≡ sight_at file packet.iface past → frame ≡ record { number = new.packets; stamp = packet.stamp }
    → Notes asked noted sight frame → TakesIn policy file old new asked noted (packet ∷ [])
takes_noted policy file old new asked noted packet kept past sight frame some within is sized packets items small at framed notes = record {
  counts = counts_sighting policy old new packet kept past some within is sized packets items;
  shows = λ wanted packets_of counts shows.
      let long : past ≡ length (frames_of policy packet.iface (packets_of file)) = omega (arith, small, is, counts.each packet.iface within) in
      let there : sight ≡ sight_at file packet.iface (length (frames_of policy packet.iface (packets_of file))) = at ∙ ap (sight_at file packet.iface) long in
      let number : new.packets ≡ counted (1 + length (packets_of file)) = packets ∙ ap (λ (n : ℕ). counted (n + 1)) counts.all ∙ counted_more (length (packets_of file)) ∙ ap counted (omega arith) in
      let its : frame ≡ frame_of (1 + length (packets_of file)) packet = framed ∙ ap (λ (n : ℕ). let f : Frame = record { number = n; stamp = packet.stamp } in f) number in
      shows_noted asked noted policy wanted packets_of file packet (frame_of (1 + length (packets_of file)) packet)
      (frame_if-kept policy (1 + length (packets_of file)) packet kept some) within (rw (there, its) at notes) shows;
}

pub shows_as : (frames : Frames) (policy : Policy) (wanted : SightId → Bool) (p q : ℕ → List Packet) → ((file : ℕ) → p file ≡ q file) → Shows frames policy wanted p → Shows frames policy wanted q
shows_as frames policy wanted p q same shows = λ file number index less small.
    shows file number index less small ∙ ap (λ (ps : List Packet). cond (wanted (sight_at file number index)) (Some (slice_get (frames_of policy number ps) index)) None) (same file)

more_of-none : (packets_of : ℕ → List Packet) (file other : ℕ) → more_of packets_of file [] other ≡ packets_of other
more_of-none packets_of file other = elim (eqb_tells other file) [
  | inl same ↦ rw same.0 (append-nil (packets_of other))
  | inr ne ↦ rw ne.0 refl
]

pub more_of-then : (packets_of : ℕ → List Packet) (file : ℕ) (a b : List Packet) (other : ℕ) → more_of (more_of packets_of file a) file b other ≡ more_of packets_of file (a ++ b) other
more_of-then packets_of file a b other = elim (eqb_tells other file) [
  | inl same ↦ rw same.0 (append_assoc (packets_of other) a b)
  | inr ne ↦ rw ne.0 refl
]

pub takes_none : (policy : Policy) (file : ℕ) (tally : Tally) (frames : Frames) → TakesIn policy file tally tally frames frames []
takes_none policy file tally frames = record {
  counts = λ before counts. subst (Counts policy tally) (sym (append-nil before)) counts;
  shows = λ wanted packets_of counts shows. shows_as frames policy wanted packets_of (more_of packets_of file []) (λ other. sym (more_of-none packets_of file other)) shows;
}

pub takes_then : (policy : Policy) (file : ℕ) (old mid new : Tally) (asked between noted : Frames) (a b : List Packet)
    → TakesIn policy file old mid asked between a → TakesIn policy file mid new between noted b → TakesIn policy file old new asked noted (a ++ b)
takes_then policy file old mid new asked between noted a b first second = record {
  counts = λ before counts. subst (Counts policy new) (append_assoc before a b) (second.counts (before ++ a) (first.counts before counts));
  shows = λ wanted packets_of counts shows. shows_as noted policy wanted (more_of (more_of packets_of file a) file b) (more_of packets_of file (a ++ b)) (more_of-then packets_of file a b)
      (second.shows wanted (more_of packets_of file a) (subst (Counts policy mid) (sym (more_of-same packets_of file a)) (first.counts (packets_of file) counts)) (first.shows wanted packets_of counts shows));
}

pub counts_none : (policy : Policy) (tally : Tally) → tally.packets ≡ 0 → ((number : ℕ) → number < 64 → get_or tally.sightings.items number 0 ≡ 0) → Counts policy tally []
counts_none policy tally none all = record {
  all = none;
  each = λ number less. all number less ∙ sym (ap counted (no_frames policy number));
}

-- the packet of the block that was held is taken in
pub amid_start : (old new : FrameCounter) (asked noted : Frames) (text rest : List ℕ) (held : List Packet) (wanted : SightId → Bool) (packets_of : ℕ → List Packet) → new.policy ≡ old.policy → new.file ≡ old.file
    → Counts old.policy.now old.tally (packets_of old.file) → Shows asked old.policy.now wanted packets_of
    → Begins new.reader text (packets_of old.file) [] held rest → TakesIn old.policy.now old.file old.tally new.tally asked noted held → Amid new noted text wanted packets_of rest
amid_start old new asked noted text rest held wanted packets_of policy file counts shows begins takes =
    let same : held ≡ begins.more = begins.added in
    record {
      more = held;
      read = rw file (subst (λ (ps : List Packet). IsAt new.reader text (packets_of old.file ++ ps) rest) (sym same) begins.at);
      counts = rw (file, policy) (takes.counts (packets_of old.file) counts);
      shows = rw (file, policy) (takes.shows wanted packets_of counts shows);
    }

-- one packet more
pub amid_next : (old new : FrameCounter) (asked noted : Frames) (text before rest : List ℕ) (slice : PacketSlice) (wanted : SightId → Bool) (packets_of : ℕ → List Packet) → new.policy ≡ old.policy → new.file ≡ old.file
    → (amid : Amid old asked text wanted packets_of before) → Gave new.reader text (packets_of old.file ++ amid.more) slice rest
    → TakesIn old.policy.now old.file old.tally new.tally asked noted (packet_of slice ∷ []) → Amid new noted text wanted packets_of rest
amid_next old new asked noted text before rest slice wanted packets_of policy file amid gave takes =
    let more : List Packet = amid.more ++ packet_of slice ∷ [] in
    let parts : (packets_of old.file ++ amid.more) ++ packet_of slice ∷ [] ≡ packets_of old.file ++ more = append_assoc (packets_of old.file) amid.more (packet_of slice ∷ []) in
    record {
      more = more;
      read = rw file (subst (λ (ps : List Packet). IsAt new.reader text ps rest) parts gave);
      counts = rw (file, policy) (subst (Counts old.policy.now new.tally) parts (takes.counts (packets_of old.file ++ amid.more) amid.counts));
      shows = rw (file, policy) (shows_as noted old.policy.now wanted (more_of (more_of packets_of old.file amid.more) old.file (packet_of slice ∷ [])) (more_of packets_of old.file more)
          (more_of-then packets_of old.file amid.more (packet_of slice ∷ []))
          (takes.shows wanted (more_of packets_of old.file amid.more) (subst (Counts old.policy.now old.tally) (sym (more_of-same packets_of old.file amid.more)) amid.counts) amid.shows));
    }

-- no packet is left
pub went_end : (old new : FrameCounter) (frames : Frames) (text rest : List ℕ) (wanted : SightId → Bool) (packets_of : ℕ → List Packet) → new.policy ≡ old.policy → new.file ≡ old.file → new.tally ≡ old.tally
    → (amid : Amid old frames text wanted packets_of rest) → StandsFor new.reader text (packets_of old.file ++ amid.more) → Went new frames text wanted packets_of
went_end old new frames text rest wanted packets_of policy file tally amid stands = record {
  more = amid.more;
  goes = rw file (record {
    read = subst (StandsFor new.reader text) (sym (more_of-same packets_of old.file amid.more)) stands;
    counts = rw (policy, tally) (subst (Counts old.policy.now old.tally) (sym (more_of-same packets_of old.file amid.more)) amid.counts);
    shows = rw policy amid.shows;
  });
}

pub taken_more : {X : Type 0} (xs : List X) (i : ℕ) (x : X) → i < length xs → x ≡ get_or xs i x → take (i + 1) xs ≡ take i xs ++ x ∷ []
taken_more xs i x less is = take_more xs i x less ∙ ap (λ y. take i xs ++ y ∷ []) (sym is)
