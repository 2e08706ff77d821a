-- How a capture that is fed in pieces shows its first fault.
use Rattle.std.proofs.Common.{◌≡◌, ◌<◌, ◌+◌, ◌++◌, ◌∷◌, ◌∙◌, [], ℕ, zero, suc, List, Option, Some, None, Result, Ok, Err, IfErr, take, drop, length, ap, sym, subst, inl, inr, refl, arith, append_assoc, append-nil}
use Rattle.std.proofs.lemmas.List.{get_or_at, get_or-set_same, get_or-set_other, length-set, take-append-drop}
use Rattle.std.proofs.lemmas.Bool.Decides.{eqb_tells}
use Rattle.std.proofs.lemmas.List.Elements.{All-append, All-nil}
use Rattle.std.specs.Prelude.{IsErrAnd, IsOk}
use Rattle.std.specs.List.{concat}
use Rattle.std.specs.Option.{SomeIff}
use Rattle.audit_model.specs.declared.policy.Policy.{Policy}
use Rattle.audit_model.specs.declared.sighting.Sighting.{Sighting}
use Rattle.audit_pcapng.proofs.OneReading.{fault_kept}
use Rattle.audit_pcapng.specs.declared.packet.Packet.{Packet}
use Rattle.audit_pcapng.specs.declared.reader.BlockReader.{BlockReader}
use Rattle.audit_pcapng.specs.Captures.{BeginsWith}
use Rattle.audit_pcapng.specs.Sections.{no_blocks}
use Rattle.audit_sightings.proofs.FilesSteps.{packets_of-piece}
use Rattle.audit_sightings.proofs.AddPacketsSteps.{AreSightings-same}
use Rattle.audit_sightings.specs.declared.fault.IntakeFault.{IntakeFault}
use Rattle.audit_sightings.specs.declared.fault.IntakeFaultKind.{IntakeFaultKind}
use Rattle.audit_sightings.specs.declared.fault.IntakeFaultKind.TheVariants as faults
use Rattle.audit_sightings.specs.declared.intake.Intake.{Intake}
use Rattle.audit_sightings.specs.Files.{Fed, GoesOn, IsNext, Refuses, StandsFor, fed_at, not_fed, packets_of, with_piece}
use Rattle.audit_sightings.specs.ServiceDatagram.{service_datagram_of}
use Rattle.audit_sightings.specs.IntakeFault.{IsMemory}
use Rattle.audit_sightings.specs.Sightings.{AreSound, more_of}
use Rattle.audit_files.specs.declared.stop.Stop.{Stop}
use Rattle.audit_files.specs.declared.stop.Stop.TheVariants.{Memory, Read, Refused, Write}
use Rattle.audit_files.specs.CaptureFaults.{HasFront}
use Rattle.audit_files.specs.Stops.{EndsByIntake}

-- a longer text begins with what a text begins with
begins_longer : (text more : List ℕ) (packets : List Packet) → BeginsWith text packets → BeginsWith (text ++ more) packets
begins_longer text more packets begins = (
  begins.0,
  begins.1 ++ more,
  record {
    blocks = begins.2.blocks;
    spelled = ap (λ (t : List ℕ). t ++ more) begins.2.spelled ∙ append_assoc (concat begins.2.blocks) begins.1 more;
    run = begins.2.run;
  },
)

-- and has its first fault
next_longer : (policy : Policy) (interfaces : List (List Sighting)) (text more : List ℕ) (packets : List Packet) (kind : IntakeFaultKind)
    → IsNext policy interfaces text packets kind → IsNext policy interfaces (text ++ more) packets kind
next_longer policy interfaces text more packets (faults.Capture fault) next = λ other. fault_kept text more packets fault (next other)
next_longer policy interfaces text more packets faults.Fragment next = (next.0, begins_longer text more _ next.1, next.2)
next_longer policy interfaces text more packets faults.Hairpin next = (next.0, begins_longer text more _ next.1, next.2)
next_longer policy interfaces text more packets faults.CutDatagram next = (next.0, begins_longer text more _ next.1, next.2)
next_longer policy interfaces text more packets faults.Limit next = (next.0, begins_longer text more _ next.1, next.2)
next_longer policy interfaces text more packets faults.Memory next = (next.0, begins_longer text more _ next.1, next.2)
next_longer policy interfaces text more packets faults.Failed next = (next.0, begins_longer text more _ next.1, next.2)

-- some reader of a list that has one
some_reader : (readers : List BlockReader) → 0 < length readers → BlockReader
some_reader [] some = absurd (omega arith)
some_reader (reader ∷ readers) some = reader

-- what a file of an intake was fed begins with its packets
pub begins_at : (intake : Intake) (files : List Fed) (file : ℕ) → StandsFor intake files → file < length files → BeginsWith (fed_at files file).text (packets_of files file)
begins_at intake files file stands less =
    let long : length files ≡ length intake.files.items = omega (arith, stands.count, intake.files.ok.0) in
    let read = stands.read file (some_reader intake.files.items (omega (arith, long, less))) (omega (arith, stands.count, less)) in
    (_, _, read.1.front)

-- a file that wasn't fed, with a piece
piece_at : (files : List Fed) (file : ℕ) (piece : List ℕ) (more : List Packet) → file < length files → fed_at files file ≡ not_fed → fed_at (with_piece files file piece more) file ≡ record { text = piece; packets = more }
piece_at files file piece more less fresh =
    get_or-set_same files file (record { text = (fed_at files file).text ++ piece; packets = packets_of files file ++ more }) not_fed less
    ∙ ap (λ (fed : Fed). record { text = fed.text ++ piece; packets = fed.packets ++ more }) fresh

-- its packets, with others behind them
piece_more : (files : List Fed) (file : ℕ) (piece : List ℕ) (first then : List Packet) → file < length files → (other : ℕ)
    → more_of (packets_of (with_piece files file piece first)) file then other ≡ more_of (packets_of files) file (first ++ then) other
piece_more files file piece first then less other =
    let one : Fed = record { text = (fed_at files file).text ++ piece; packets = packets_of files file ++ first } in
    elim (eqb_tells other file) [
      | inl same ↦ rw (same.0, same.1) (ap (λ (fed : Fed). fed.packets ++ then) (get_or-set_same files file one not_fed less) ∙ append_assoc (packets_of files file) first then)
      | inr ne ↦ rw ne.0 (ap (λ (fed : Fed). fed.packets) (get_or-set_other files file other one not_fed ne.1))
    ]

-- a piece changes no number of files
piece_length : (files : List Fed) (file : ℕ) (piece : List ℕ) (more : List Packet) → length (with_piece files file piece more) ≡ length files
piece_length files file piece more = length-set files file (record { text = (fed_at files file).text ++ piece; packets = packets_of files file ++ more })

-- an intake that was fed the front of a capture
pub front_fed : (intake : Intake) (files : List Fed) (file at : ℕ) (bytes : List ℕ) → file < length files → fed_at files file ≡ not_fed → GoesOn intake files file (take at bytes)
    → HasFront intake.policy (packets_of files) file bytes intake.interfaces
front_fed intake files file at bytes less fresh on =
    let here = piece_at files file (take at bytes) on.more less fresh in
    let long : file < length (with_piece files file (take at bytes) on.more) = omega (arith, less, piece_length files file (take at bytes) on.more) in
    record {
      packets = on.more;
      front = record {
        begins = subst (λ (text : List ℕ). BeginsWith text on.more) (take-append-drop at bytes)
            (begins_longer (take at bytes) (drop at bytes) on.more (subst (λ (fed : Fed). BeginsWith fed.text fed.packets) here (begins_at intake _ file on.stands long)));
        sound = subst (λ (fed : Fed). AreSound intake.policy fed.packets) here (on.stands.sound file);
      };
      sightings = AreSightings-same intake.policy intake.interfaces _ _ (λ other. sym (packets_of-piece files file (take at bytes) on.more other less)) on.stands.sightings;
    }

-- and then refused the next piece
pub fault_fed : (intake : Intake) (interfaces : List (List Sighting)) (policy : Policy) (files : List Fed) (file at count : ℕ) (bytes piece : List ℕ) (kind : IntakeFaultKind) → file < length files → fed_at files file ≡ not_fed
    → policy ≡ intake.policy → take at bytes ++ piece ≡ take (at + count) bytes → (on : GoesOn intake files file (take at bytes))
    → Refuses policy interfaces (with_piece files file (take at bytes) on.more) file piece kind
    → (front : HasFront policy (packets_of files) file bytes interfaces) × IsNext policy interfaces bytes front.packets kind
fault_fed intake interfaces policy files file at count bytes piece kind less fresh same read on refuses =
    let here = piece_at files file (take at bytes) on.more less fresh in
    let is : (take at bytes ++ piece) ++ drop (at + count) bytes ≡ bytes = ap (λ (front : List ℕ). front ++ drop (at + count) bytes) read ∙ take-append-drop (at + count) bytes in
    let packets : List Packet = on.more ++ refuses.more in
    let first : BeginsWith (take at bytes ++ piece) packets = subst (λ (fed : Fed). BeginsWith (fed.text ++ piece) (fed.packets ++ refuses.more)) here refuses.begins in
    let then : IsNext policy interfaces (take at bytes ++ piece) packets kind = subst (λ (fed : Fed). IsNext policy interfaces (fed.text ++ piece) (fed.packets ++ refuses.more) kind) here refuses.next in
    let sound : AreSound policy on.more = subst (λ (p : Policy). AreSound p on.more) (sym same) (subst (λ (fed : Fed). AreSound intake.policy fed.packets) here (on.stands.sound file)) in (
      record {
        packets = packets;
        front = record {
          begins = subst (λ (text : List ℕ). BeginsWith text packets) is (begins_longer (take at bytes ++ piece) (drop (at + count) bytes) packets first);
          sound = All-append (λ packet. IsOk (service_datagram_of policy packet)) on.more refuses.more sound refuses.sound;
        };
        sightings = AreSightings-same policy interfaces _ _ (piece_more files file (take at bytes) on.more refuses.more less) refuses.sightings;
      },
      subst (λ (text : List ℕ). IsNext policy interfaces text packets kind) is (next_longer policy interfaces (take at bytes ++ piece) (drop (at + count) bytes) packets kind then),
    )

-- what ends a run where a fault is converted
pub err_then : {T E : Type 0} {P Q : E → Type 0} (r : Result T E) → IsErrAnd r P → ((e : E) → P e → Q e) → IfErr r Q
err_then (Ok x) p f = absurd p
err_then (Err e) p f = f e p

-- a sum that doesn't fit
pub none_over : (r : Option ℕ) (P : Type 0) (v : ℕ) → r ≡ None → SomeIff r P v → P → ⊥
none_over None P v e is = is
none_over (Some x) P v e is = absurd cc

-- before the first packet of a capture
pub front_none : (intake : Intake) (files : List Fed) (file : ℕ) (bytes : List ℕ) → StandsFor intake files → HasFront intake.policy (packets_of files) file bytes intake.interfaces
front_none intake files file bytes stands = record {
  packets = [];
  front = record { begins = (no_blocks, bytes, record { blocks = []; spelled = refl; run = (refl, refl) }); sound = All-nil (λ packet. IsOk (service_datagram_of intake.policy packet)) };
  sightings = AreSightings-same intake.policy intake.interfaces _ _ (λ other. elim (eqb_tells other file) [ inl same ↦ rw same.0 (sym (append-nil (packets_of files other))) | inr ne ↦ rw ne.0 refl ]) stands.sightings;
}

-- one file more that isn't fed
pub fed_last : (files : List Fed) (file : ℕ) → length files ≡ file → fed_at (files ++ not_fed ∷ []) file ≡ not_fed
fed_last files file is = get_or_at files not_fed [] not_fed file is

packets_more : (files : List Fed) (file : ℕ) → packets_of (files ++ not_fed ∷ []) file ≡ packets_of files file
packets_more [] zero = refl
packets_more [] (suc file) = refl
packets_more (fed ∷ files) zero = refl
packets_more (fed ∷ files) (suc file) = packets_more files file

-- what is said of a file behind others that is fed, by these others alone
pub by_others : (P : (ℕ → List Packet) → ℕ → Policy → Type 0) (files : List Fed) (file : ℕ) (old new : Policy) → length files ≡ file → new ≡ old → P (packets_of (files ++ not_fed ∷ [])) file new → P (packets_of files) (length files) old
by_others P files file old new is same p =
    let others : packets_of (files ++ not_fed ∷ []) ≡ packets_of files = λ i number. packets_more files number i in
    subst (λ (q : Policy). P (packets_of files) (length files) q) same (subst (λ (n : ℕ). P (packets_of files) n new) (sym is) (subst (λ (o : ℕ → List Packet). P o file new) others p))

-- want of memory, and no other fault, ends a run by it
pub memory_ends : (fault : IntakeFault) (stop : Stop) → fault.kind ≡ faults.Memory → EndsByIntake fault stop → stop ≡ Memory
memory_ends fault (Refused code place) is ends = absurd (ends.0 (subst IsMemory (sym is) tt))
memory_ends fault Memory is ends = refl
memory_ends fault Read is ends = absurd ends
memory_ends fault Write is ends = absurd ends
