-- What an intake stands for, from call to call.
use Rattle.std.proofs.Common.{◌≡◌, ℕ, zero, suc, ◌+◌, ◌*◌, ◌<◌, ◌≤◌, List, [], ◌∷◌, ◌++◌, length, get_or, Option, Some, None, refl, sym, ap, subst, ◌∙◌, arith, append_assoc, inl, inr, vec_len}
use Rattle.std.specs.Prelude.{IsOk}
use Rattle.std.specs.List.{concat}
use Rattle.std.specs.Option.{option_to_list}
use Rattle.std.proofs.lemmas.Bool.{cases_lt}
use Rattle.std.proofs.lemmas.Bool.Decides.{eqb_tells}
use Rattle.std.proofs.lemmas.List.{length-append, get_or-set_same, get_or-set_other, get_or_append_left}
use Rattle.std.proofs.lemmas.List.Elements.{All-nil}
use Rattle.std.proofs.Math.Seq.{get_or-append_seam}
use Rattle.audit_model.specs.declared.policy.Policy.{Policy}
use Rattle.audit_model.specs.declared.sighting.Sighting.{Sighting}
use Rattle.audit_pcapng.specs.declared.packet.Packet.{Packet}
use Rattle.audit_pcapng.specs.declared.scope.Scope.{Scope}
use Rattle.audit_pcapng.specs.declared.reader.BlockReader.{BlockReader}
use Rattle.audit_pcapng.specs.declared.fault.CaptureFault.{CaptureFault}
use Rattle.audit_pcapng.specs.Sections.{no_blocks}
use Rattle.audit_pcapng.specs.Captures.{IsBlock, Blocks, Front, BeginsWith}
use Rattle.audit_pcapng.specs.Readers as reader
use Rattle.audit_sightings.specs.declared.fault.IntakeFaultKind.{IntakeFaultKind}
use Rattle.audit_sightings.specs.declared.fault.IntakeFaultKind.TheVariants as faults
use Rattle.audit_sightings.specs.declared.intake.Intake.{Intake}
use Rattle.audit_sightings.specs.ServiceDatagram.{service_datagram_of}
use Rattle.audit_sightings.specs.Sightings.{sightings_of, AreSound, more_of, IsRefused, TakesIn, Stops}
use Rattle.audit_sightings.specs.Files.{Fed, not_fed, fed_at, packets_of, StandsFor, with_piece, Refuses, IsNext}
use Rattle.audit_sightings.proofs.AddPacketsSteps.{AreSightings-same}

pub none_given : (policy : Policy) (iface : ℕ) → [] ≡ sightings_of policy iface []
unfolding sightings_of
none_given policy iface = refl

-- an intake of no files
pub stands_new : (intake : Intake) → intake.failed ≡ None → vec_len intake.files ≡ 0 → intake.interfaces ≡ [] → StandsFor intake []
stands_new intake unfailed none empty = record {
  unfailed = unfailed;
  count = sym none;
  read = λ file other less. absurd (omega arith);
  sound = λ file. All-nil (λ packet. IsOk (service_datagram_of intake.policy packet));
  sightings = rw empty (record { each = λ file number less. none_given intake.policy (64 * file + number); last = λ last e. absurd (omega arith) });
}

fed_at-more : (files : List Fed) (file : ℕ) → fed_at (files ++ not_fed ∷ []) file ≡ fed_at files file
fed_at-more [] zero = refl
fed_at-more [] (suc file) = refl
fed_at-more (fed ∷ files) zero = refl
fed_at-more (fed ∷ files) (suc file) = fed_at-more files file

pub fed_at-past : (files : List Fed) (file : ℕ) → length files ≤ file → fed_at files file ≡ not_fed
fed_at-past [] zero h = refl
fed_at-past [] (suc file) h = refl
fed_at-past (fed ∷ files) zero h = absurd (omega arith)
fed_at-past (fed ∷ files) (suc file) h = fed_at-past files file (omega arith)

-- of one file, as of another that is the same
pub read_as : (after : BlockReader) (one other : Fed) → one ≡ other → reader.StandsFor after other.text other.packets → reader.StandsFor after one.text one.packets
read_as after one other e stands = subst (λ (fed : Fed). reader.StandsFor after fed.text fed.packets) (sym e) stands

pub sound_as : (policy : Policy) (one other : Fed) → one ≡ other → AreSound policy other.packets → AreSound policy one.packets
sound_as policy one other e sound = subst (λ (fed : Fed). AreSound policy fed.packets) (sym e) sound

-- one file more
pub stands_more : (old new : Intake) (files : List Fed) (added : BlockReader) → StandsFor old files → new.failed ≡ old.failed → new.policy ≡ old.policy → new.interfaces ≡ old.interfaces
    → new.files.items ≡ old.files.items ++ added ∷ [] → vec_len new.files ≡ vec_len old.files + 1 → vec_len old.files ≡ length old.files.items → reader.StandsFor added [] [] → StandsFor new (files ++ not_fed ∷ [])
stands_more old new files added stands failed policy interfaces items len len_is fresh =
    let same : (file : ℕ) → packets_of files file ≡ packets_of (files ++ not_fed ∷ []) file = λ file. ap (λ (fed : Fed). fed.packets) (sym (fed_at-more files file)) in
    record {
      unfailed = failed ∙ stands.unfailed;
      count = omega (arith, length-append files (not_fed ∷ []), stands.count);
      read = λ file other less. rw items (elim (cases_lt file (length old.files.items)) [
        | inl before ↦ rw (get_or_append_left old.files.items (added ∷ []) other file before) (read_as (get_or old.files.items file other) _ _ (fed_at-more files file) (stands.read file other (omega arith)))
        | inr past ↦ let at : file ≡ length old.files.items = omega arith in
            rw (at, get_or-append_seam old.files.items added [] other)
            (read_as added _ _ (fed_at-more files (length old.files.items) ∙ fed_at-past files (length old.files.items) (omega (arith, stands.count))) fresh)
      ]);
      sound = λ file. rw policy (sound_as old.policy _ _ (fed_at-more files file) (stands.sound file));
      sightings = rw (policy, interfaces) (AreSightings-same old.policy old.interfaces (packets_of files) (packets_of (files ++ not_fed ∷ [])) same stands.sightings);
    }

pub packets_of-piece : (files : List Fed) (file : ℕ) (piece : List ℕ) (more : List Packet) (other : ℕ) → file < length files → more_of (packets_of files) file more other ≡ packets_of (with_piece files file piece more) other
packets_of-piece files file piece more other less = elim (eqb_tells other file) [
  | inl same ↦ rw (same.0, same.1) (ap (λ (fed : Fed). fed.packets) (sym (get_or-set_same files file (record { text = (fed_at files file).text ++ piece; packets = packets_of files file ++ more }) not_fed less)))
  | inr ne ↦ rw ne.0 (ap (λ (fed : Fed). fed.packets) (sym (get_or-set_other files file other (record { text = (fed_at files file).text ++ piece; packets = packets_of files file ++ more }) not_fed ne.1)))
]

-- the next block has a fault
pub refused_by_block : (old : Intake) (interfaces : List (List Sighting)) (files : List Fed) (file : ℕ) (piece : List ℕ) (packets : List Packet) (fault : CaptureFault) → StandsFor old files
    → reader.Refuses ((fed_at files file).text ++ piece) (packets_of files file) [] packets fault → TakesIn old.policy old.interfaces file packets interfaces → Refuses old.policy interfaces files file piece (faults.Capture fault)
refused_by_block old interfaces files file piece packets fault stands refuses taken =
    let taken_so : TakesIn old.policy old.interfaces file refuses.more interfaces = subst (λ (p : List Packet). TakesIn old.policy old.interfaces file p interfaces) refuses.added taken in
    record {
      more = refuses.more;
      begins = refuses.begins;
      sound = taken_so.sound;
      sightings = taken_so.taken (packets_of files) stands.sightings;
      next = refuses.first;
    }

-- blocks at the front give the first of the packets
abbrev GivesFirst : Scope → List (List ℕ) → List Packet → Type 0
GivesFirst start blocks packets = (after : Scope) × (front : List (List ℕ)) × (back : List (List ℕ)) × (blocks ≡ front ++ back) × Blocks start front packets after

one_block : (start next : Scope) (bytes : List ℕ) (blocks : List (List ℕ)) (first : Packet) (packets others later : List Packet) (given : Option Packet) → IsBlock start bytes given next
    → (first ∷ packets) ++ others ≡ option_to_list given ++ later → ((p : List Packet) → later ≡ p ++ others → GivesFirst next blocks p) → GivesFirst start (bytes ∷ blocks) (first ∷ packets)
one_block start next bytes blocks first packets others later None is e rest =
    let r : GivesFirst next blocks (first ∷ packets) = rest (first ∷ packets) (sym e) in
    (r.0, bytes ∷ r.1, r.2, ap (λ (b : List (List ℕ)). bytes ∷ b) r.3, (None, next, first ∷ packets, is, r.4, refl))
one_block start next bytes blocks first packets others later (Some given) is e rest =
    let r : GivesFirst next blocks packets = rest packets (sym cc) in
    let same : first ≡ given = cc in
    (r.0, bytes ∷ r.1, r.2, ap (λ (b : List (List ℕ)). bytes ∷ b) r.3, (Some given, next, packets, is, r.4, ap (λ (p : Packet). p ∷ packets) same))

gives_first : (start after : Scope) (blocks : List (List ℕ)) (packets others : List Packet) → Blocks start blocks (packets ++ others) after → GivesFirst start blocks packets
gives_first start after blocks [] others run = (start, [], blocks, refl, (refl, refl))
gives_first start after [] (first ∷ packets) others run = absurd cc
gives_first start after (bytes ∷ blocks) (first ∷ packets) others run =
    one_block start run.1 bytes blocks first packets others run.2 run.0 run.3 run.5
    (λ p e. gives_first run.1 after blocks p others (subst (λ (l : List Packet). Blocks run.1 blocks l after) e run.4))

concat-append : (xs ys : List (List ℕ)) → concat (xs ++ ys) ≡ concat xs ++ concat ys
concat-append [] ys = refl
concat-append (x ∷ xs) ys = ap (λ (r : List ℕ). x ++ r) (concat-append xs ys) ∙ sym (append_assoc x (concat xs) (concat ys))

-- a text that begins with packets begins with the first of them
pub begins_first : (text : List ℕ) (packets others : List Packet) → BeginsWith text (packets ++ others) → BeginsWith text packets
begins_first text packets others begins =
    let front : Front no_blocks text (packets ++ others) begins.0 begins.1 = begins.2 in
    let first : GivesFirst no_blocks front.blocks packets = gives_first no_blocks begins.0 front.blocks packets others front.run in (
      first.0,
      concat first.2 ++ begins.1,
      record {
        blocks = first.1;
        spelled = front.spelled ∙ ap (λ (bs : List (List ℕ)). concat bs ++ begins.1) first.3 ∙ ap (λ (r : List ℕ). r ++ begins.1) (concat-append first.1 first.2) ∙ append_assoc (concat first.1) (concat first.2) begins.1;
        run = first.4;
      },
    )

pub next_by_packet : (policy : Policy) (interfaces : List (List Sighting)) (text : List ℕ) (packets : List Packet) (packet : Packet) (fault : IntakeFaultKind) → BeginsWith text (packets ++ packet ∷ [])
    → IsRefused policy interfaces packet fault → IsNext policy interfaces text packets fault
next_by_packet policy interfaces text packets packet (faults.Capture fault) begins refused = absurd refused
next_by_packet policy interfaces text packets packet faults.Fragment begins refused = (packet, begins, refused)
next_by_packet policy interfaces text packets packet faults.Hairpin begins refused = (packet, begins, refused)
next_by_packet policy interfaces text packets packet faults.CutDatagram begins refused = (packet, begins, refused)
next_by_packet policy interfaces text packets packet faults.Limit begins refused = (packet, begins, refused)
next_by_packet policy interfaces text packets packet faults.Memory begins refused = (packet, begins, refused)
next_by_packet policy interfaces text packets packet faults.Failed begins refused = absurd refused

-- a packet is refused
pub refused_by_frame : (old : Intake) (interfaces : List (List Sighting)) (files : List Fed) (file : ℕ) (piece : List ℕ) (packets : List Packet) (fault : IntakeFaultKind) → StandsFor old files
    → BeginsWith ((fed_at files file).text ++ piece) (packets_of files file ++ packets) → Stops old.policy old.interfaces file packets interfaces fault → Refuses old.policy interfaces files file piece fault
refused_by_frame old interfaces files file piece packets fault stands begins stops =
    let text : List ℕ = (fed_at files file).text ++ piece in
    let so_far : List Packet = packets_of files file in
    let parts : so_far ++ packets ≡ ((so_far ++ stops.before) ++ stops.packet ∷ []) ++ stops.after =
    ap (λ (p : List Packet). so_far ++ p) stops.parts ∙ sym (append_assoc so_far stops.before (stops.packet ∷ stops.after)) ∙ sym (append_assoc (so_far ++ stops.before) (stops.packet ∷ []) stops.after) in
    let through : BeginsWith text ((so_far ++ stops.before) ++ stops.packet ∷ []) = begins_first text ((so_far ++ stops.before) ++ stops.packet ∷ []) stops.after (subst (BeginsWith text) parts begins) in
    record {
      more = stops.before;
      begins = begins_first text (so_far ++ stops.before) (stops.packet ∷ []) through;
      sound = stops.taken.sound;
      sightings = stops.taken.taken (packets_of files) stands.sightings;
      next = next_by_packet old.policy interfaces text (so_far ++ stops.before) stops.packet fault through stops.refused;
    }

-- the reader of a file, as a loop has it
pub read_at : (intake : Intake) (files : List Fed) (file : ℕ) (readers : List BlockReader) (at : BlockReader) → StandsFor intake files → readers ≡ intake.files.items → length readers ≡ vec_len intake.files → file < length readers
    → at ≡ get_or readers file at → reader.StandsFor at (fed_at files file).text (packets_of files file)
read_at intake files file readers at stands are len less is =
    subst (λ (r : BlockReader). reader.StandsFor r (fed_at files file).text (packets_of files file)) (sym (is ∙ ap (λ (rs : List BlockReader). get_or rs file at) are)) (stands.read file at (omega arith))
