-- Packets that were gathered in the midst of a piece, and then taken in.
use Rattle.std.proofs.Common.{◌≡◌, ℕ, ◌<◌, List, [], ◌∷◌, ◌++◌, length, get_or, map, sym, ap, subst, ◌∙◌, arith, append_assoc, inl, inr, vec_len}
use Rattle.std.specs.Prelude.{slice_set, IsOk}
use Rattle.std.proofs.lemmas.Bool.Decides.{eqb_tells}
use Rattle.std.proofs.lemmas.List.{map-append, length-set, get_or-set_same, get_or-set_other}
use Rattle.std.proofs.lemmas.List.Elements.{All-append, All-drop}
use Rattle.std.proofs.Math.Seq.{drop-append_seam}
use Rattle.audit_model.specs.declared.sighting.Sighting.{Sighting}
use Rattle.audit_pcapng.specs.declared.packet.Packet.{Packet}
use Rattle.audit_pcapng.specs.declared.packet.PacketSlice.{PacketSlice}
use Rattle.audit_pcapng.specs.declared.reader.BlockReader.{BlockReader}
use Rattle.audit_pcapng.specs.declared.fault.CaptureFault.{CaptureFault}
use Rattle.audit_pcapng.specs.Captures.{BeginsWith}
use Rattle.audit_pcapng.specs.Readers as reader
use Rattle.audit_pcapng.specs.Packets.{packet_of}
use Rattle.audit_pcapng.specs.Steps.{IsAt, EndsBy}
use Rattle.audit_sightings.specs.declared.fault.IntakeFaultKind.{IntakeFaultKind}
use Rattle.audit_sightings.specs.declared.fault.IntakeFaultKind.TheVariants as faults
use Rattle.audit_sightings.specs.declared.intake.Intake.{Intake}
use Rattle.audit_sightings.specs.ServiceDatagram.{service_datagram_of}
use Rattle.audit_sightings.specs.Sightings.{AreSound, more_of, TakesIn, Stops}
use Rattle.audit_sightings.specs.Files.{Fed, fed_at, packets_of, with_piece, GoesOn, IsNext, Refuses}
use Rattle.audit_sightings.specs.Amid.{Amid}
use Rattle.audit_sightings.proofs.AddPacketsSteps.{AreSightings-same}
use Rattle.audit_sightings.proofs.FilesSteps.{read_as, packets_of-piece, begins_first, next_by_packet}
use Rattle.audit_sightings.proofs.AmidSteps.{fed_with, at_file, at_other, more_at, sound_more}

-- a text begins with the packets that its reader has given
pub begins_at : (at : BlockReader) (text : List ℕ) (packets : List Packet) (rest : List ℕ) → IsAt at text packets rest → BeginsWith text packets
begins_at at text packets rest is = (at.scope, at.held.items ++ rest, is.front)

pub begins_read : (at : BlockReader) (text : List ℕ) (packets : List Packet) → reader.StandsFor at text packets → BeginsWith text packets
begins_read at text packets stands = (at.scope, at.held.items, stands.1.front)

-- one packet more is gathered
pub gathered_one : (at : BlockReader) (text : List ℕ) (before : List Packet) (packets : List PacketSlice) (packet : PacketSlice) (rest : List ℕ) → IsAt at text ((before ++ map packet_of packets) ++ packet_of packet ∷ []) rest
    → IsAt at text (before ++ map packet_of (packets ++ packet ∷ [])) rest
gathered_one at text before packets packet rest is =
    subst (λ (p : List Packet). IsAt at text p rest)
    (append_assoc before (map packet_of packets) (packet_of packet ∷ []) ∙ ap (λ (m : List Packet). before ++ m) (sym (map-append packet_of packets (packet ∷ [])))) is

-- the piece is taken, and its packets with it
pub gathered_all : (old new : Intake) (files : List Fed) (file : ℕ) (piece rest : List ℕ) (packets : List Packet) (after : BlockReader) (amid : Amid old files file piece rest) → file < vec_len old.files → vec_len old.files ≡ length old.files.items
    → new.failed ≡ old.failed → new.policy ≡ old.policy → new.files.items ≡ slice_set old.files.items file after → vec_len new.files ≡ vec_len old.files
    → reader.StandsFor after ((fed_at files file).text ++ piece) ((packets_of files file ++ amid.more) ++ packets) → TakesIn old.policy old.interfaces file packets new.interfaces → GoesOn new files file piece
gathered_all old new files file piece rest packets after amid within long failed policy items len stood taken =
    let more : List Packet = amid.more ++ packets in
    let less : file < length files = omega (arith, amid.is.count, length-set files file (fed_with files file piece amid.more)) in
    let here : reader.StandsFor after ((fed_at files file).text ++ piece) (packets_of files file ++ more) = subst (λ (p : List Packet). reader.StandsFor after ((fed_at files file).text ++ piece) p) (append_assoc (packets_of files file) amid.more packets) stood in
    record {
      more = more;
      stands = record {
        unfailed = failed ∙ amid.is.unfailed;
        count = length-set files file (fed_with files file piece more) ∙ sym (length-set files file (fed_with files file piece amid.more)) ∙ amid.is.count ∙ sym len;
        read = λ other none inside. rw items (elim (eqb_tells other file) [
          | inl same ↦ rw (same.1, get_or-set_same old.files.items file after none (omega arith)) (read_as after _ _ (at_file files file piece more less) here)
          | inr ne ↦ rw (get_or-set_other old.files.items file other after none ne.1)
              (read_as (get_or old.files.items other none) _ _ (at_other files file piece more other ne.1 ∙ sym (at_other files file piece amid.more other ne.1)) (amid.is.others other none ne.1 (omega arith)))
        ]);
        sound = λ other. rw policy (sound_more old.policy files file piece amid.more packets other less (amid.is.sound other) taken.sound);
        sightings = rw policy (AreSightings-same old.policy new.interfaces (more_of (packets_of (with_piece files file piece amid.more)) file packets) (packets_of (with_piece files file piece more))
            (λ other. more_at files file piece amid.more packets other less) (taken.taken (packets_of (with_piece files file piece amid.more)) amid.is.sightings));
      };
    }

-- what a refusal behind gathered packets leaves
gathered_refuses : (old : Intake) (interfaces : List (List Sighting)) (files : List Fed) (file : ℕ) (piece rest : List ℕ) (packets : List Packet) (fault : IntakeFaultKind) (amid : Amid old files file piece rest) → file < vec_len old.files
    → BeginsWith ((fed_at files file).text ++ piece) ((packets_of files file ++ amid.more) ++ packets) → TakesIn old.policy old.interfaces file packets interfaces
    → IsNext old.policy interfaces ((fed_at files file).text ++ piece) ((packets_of files file ++ amid.more) ++ packets) fault → Refuses old.policy interfaces files file piece fault
gathered_refuses old interfaces files file piece rest packets fault amid within begins taken next =
    let text : List ℕ = (fed_at files file).text ++ piece in
    let more : List Packet = amid.more ++ packets in
    let less : file < length files = omega (arith, amid.is.count, length-set files file (fed_with files file piece amid.more)) in
    let parts : (packets_of files file ++ amid.more) ++ packets ≡ packets_of files file ++ more = append_assoc (packets_of files file) amid.more packets in
    let all : AreSound old.policy (packets_of files file ++ amid.more) = subst (λ (f : Fed). AreSound old.policy f.packets) (at_file files file piece amid.more less) (amid.is.sound file) in
    let sound : AreSound old.policy amid.more = subst (AreSound old.policy) (drop-append_seam (packets_of files file) amid.more) (All-drop (λ packet. IsOk (service_datagram_of old.policy packet)) (length (packets_of files file)) (packets_of files file ++ amid.more) all) in
    record {
      more = more;
      begins = subst (BeginsWith text) parts begins;
      sound = All-append (λ packet. IsOk (service_datagram_of old.policy packet)) amid.more packets sound taken.sound;
      sightings = AreSightings-same old.policy interfaces (more_of (packets_of (with_piece files file piece amid.more)) file packets) (more_of (packets_of files) file more)
          (λ other. more_at files file piece amid.more packets other less ∙ sym (packets_of-piece files file piece more other less)) (taken.taken (packets_of (with_piece files file piece amid.more)) amid.is.sightings);
      next = subst (λ (p : List Packet). IsNext old.policy interfaces text p fault) parts next;
    }

pub gathered_refused_by_block : (old : Intake) (interfaces : List (List Sighting)) (files : List Fed) (file : ℕ) (piece rest : List ℕ) (packets : List Packet) (fault : CaptureFault) (amid : Amid old files file piece rest) → file < vec_len old.files
    → BeginsWith ((fed_at files file).text ++ piece) ((packets_of files file ++ amid.more) ++ packets) → TakesIn old.policy old.interfaces file packets interfaces
    → EndsBy ((fed_at files file).text ++ piece) ((packets_of files file ++ amid.more) ++ packets) fault → Refuses old.policy interfaces files file piece (faults.Capture fault)
gathered_refused_by_block old interfaces files file piece rest packets fault amid within begins taken ends = gathered_refuses old interfaces files file piece rest packets (faults.Capture fault) amid within begins taken ends

pub gathered_refused_by_frame : (old : Intake) (interfaces : List (List Sighting)) (files : List Fed) (file : ℕ) (piece rest : List ℕ) (packets : List Packet) (fault : IntakeFaultKind) (amid : Amid old files file piece rest) → file < vec_len old.files
    → BeginsWith ((fed_at files file).text ++ piece) ((packets_of files file ++ amid.more) ++ packets) → Stops old.policy old.interfaces file packets interfaces fault → Refuses old.policy interfaces files file piece fault
gathered_refused_by_frame old interfaces files file piece rest packets fault amid within begins stops =
    let text : List ℕ = (fed_at files file).text ++ piece in
    let so_far : List Packet = packets_of files file ++ amid.more in
    let parts : so_far ++ packets ≡ ((so_far ++ stops.before) ++ stops.packet ∷ []) ++ stops.after =
    ap (λ (p : List Packet). so_far ++ p) stops.parts ∙ sym (append_assoc so_far stops.before (stops.packet ∷ stops.after)) ∙ sym (append_assoc (so_far ++ stops.before) (stops.packet ∷ []) stops.after) in
    let through : BeginsWith text ((so_far ++ stops.before) ++ stops.packet ∷ []) = begins_first text ((so_far ++ stops.before) ++ stops.packet ∷ []) stops.after (subst (BeginsWith text) parts begins) in
    gathered_refuses old interfaces files file piece rest stops.before fault amid within (begins_first text (so_far ++ stops.before) (stops.packet ∷ []) through) stops.taken
    (next_by_packet old.policy interfaces text (so_far ++ stops.before) stops.packet fault through stops.refused)
