-- After a turn that showed nothing each lane keeps what its walk remembers.
use Rattle.std.proofs.Common.{◌≡◌, inl, inr, ℕ, List, length, min, Some, None, sym, ap, ◌∙◌, subst, length-append}
use Rattle.std.specs.Prelude.{option_and_then, slice_get}
use Rattle.std.proofs.lemmas.Option.{same_Some}
use Rattle.audit_lane.specs.declared.state.LaneState.{LaneState}
use Rattle.audit_lane.specs.Seen.{kept_of}
use Rattle.audit_model.specs.declared.certificate.CertLane.{CertLane}
use Rattle.audit_model.specs.declared.event.Event.{Event}
use Rattle.audit_order.specs.Grown.{of_lane, with_events}
use Rattle.audit_prefix.specs.Turn.{runs_after, whole}
use Rattle.audit_prefix.specs.Walk.{Memory, Owing, nothing_yet, remembered_all}
use Rattle.audit_prefix.proofs.Covering.{remembers}
use Rattle.audit_rules.specs.Keys.{KeyFor}
use Rattle.audit_server.specs.Placed.{Placed}
use Rattle.audit_sightings.specs.Intake.{Taken}
use Rattle.audit_whole.specs.CaptureRun.{rules_for}
use Rattle.audit_whole.specs.Glued.{pair_of_lane}
use Rattle.audit_live.specs.declared.lane.LiveLane.{LiveLane}
use Rattle.audit_live.specs.CheckedTenancies.{AreTouched}
use Rattle.audit_live.specs.Chain.{Chain}
use Rattle.audit_live.specs.Holding.{runs_in, running_at}
use Rattle.audit_live.specs.Owed.{Owes}
use Rattle.audit_live.specs.Remembered.{Remembers}
use Rattle.audit_live.specs.Turn.{NotesChecked}
use Rattle.audit_live.specs.Walked.{AreWalked, IsWalked, events_of, memory_of}
use Rattle.audit_live.proofs.CheckedNoted.{IsNoted, ended_count, noted_lane}
use Rattle.audit_live.proofs.LaneTurns.{has_events, no_more, whole_runs}
use Rattle.audit_live.proofs.NewLanes.{grown, grown_at, grown_events}
use Rattle.audit_live.proofs.Outcomes.{IsAfter, turn_of}

module _ (taken : Taken) (key_for : KeyFor) (lanes : List CertLane) (events : List (ℕ × Event)) (mid new : List LiveLane) (touched : List ℕ) (are_touched : AreTouched events touched) (chain : Chain NotesChecked mid touched new)
    (after : (number : ℕ) (lane : CertLane) → slice_get lanes number ≡ Some lane → (live : LiveLane) × (slice_get mid number ≡ Some live) × IsAfter taken key_for events number lane live) where
  module _ (number : ℕ) (lane : CertLane) (live : LiveLane) (at : IsAfter taken key_for events number lane live) (noted : IsNoted number live touched new) where
    then_memory : remembered_all (rules_for taken key_for) nothing_yet (whole (turn_of events number lane)) ≡ memory_of taken key_for number (grown events number lane)
    then_memory = ap (remembered_all (rules_for taken key_for) nothing_yet) (sym (grown_events events number lane))

    abbrev owing_then : List Owing
    owing_then = (remembered_all (rules_for taken key_for) nothing_yet (whole (turn_of events number lane))).owing

    same_state : noted.new.state ≡ live.state
    same_state = ap (λ (l : LiveLane). l.state) noted.rest

    ended_is : ended_count live ≡ length (memory_of taken key_for number (grown events number lane)).ended
    ended_is = ap length at.keeps.ended ∙ ap (λ (m : Memory). length m.ended) then_memory

    all_checked : noted.new.checked ≡ length (memory_of taken key_for number (grown events number lane)).ended
    all_checked = elim (has_events events number events) [
      | inl has ↦ noted.checked ((are_touched number).1 has) ∙ ended_is
      | inr none ↦ elim noted.or_before [
        | inl before ↦
            before ∙ at.checked' ∙ ap (λ (es : List Placed). length (remembered_all (rules_for taken key_for) nothing_yet es).ended)
            (sym (whole_runs (rules_for taken key_for) (turn_of events number lane) (no_more events number lane none)) ∙ sym (grown_events events number lane))
        | inr now ↦ now ∙ ended_is
      ]
    ]

    walked_so : IsWalked taken key_for number (grown events number lane) noted.new
    walked_so = record {
      keeps = subst (λ (m : Memory). Remembers (pair_of_lane lane) (kept_of noted.new.state) m) then_memory (subst (λ (s : LaneState). Remembers (pair_of_lane lane) (kept_of s) _) (sym same_state) at.keeps);
      number' = ap (λ (l : LiveLane). l.number) noted.rest ∙ at.number';
      steps = ap (λ (l : LiveLane). l.steps) noted.rest ∙ at.steps ∙ sym (length-append lane.events (of_lane number events));
      checked' = all_checked;
      whole = ap (λ (l : LiveLane). l.broken) noted.rest ∙ at.whole;
      owing = subst (λ (m : Memory). Owes (length (grown events number lane).events) (kept_of noted.new.state) m.owing) then_memory
          (subst (λ (s : LaneState). Owes (length (grown events number lane).events) (kept_of s) owing_then) (sym same_state)
          (subst (λ (place : ℕ). Owes place (kept_of live.state) owing_then) (sym (length-append lane.events (of_lane number events))) at.owing));
      owes' = ap (λ (l : LiveLane). l.owes) noted.rest ∙ at.owes' ∙ ap (λ (m : Memory). min (length m.owing) 4294967295) then_memory;
    }

  pub walked_after : (number : ℕ) (lane : CertLane) → slice_get lanes number ≡ Some lane → (live : LiveLane) × (slice_get new number ≡ Some live) × IsWalked taken key_for number (grown events number lane) live
  walked_after number lane there =
      let found = after number lane there in
      let noted = noted_lane number touched mid new found.0 found.1 chain in
      (noted.new, noted.there, walked_so number lane found.0 found.2 noted)

  pub walked_then : AreWalked taken key_for (with_events 0 lanes events) new
  walked_then number lane live there live_there =
      let old = grown_at events lanes number lane there in
      let found = walked_after number old.0 old.1 in
      subst (λ (l : CertLane). IsWalked taken key_for number l live) (sym old.2)
      (subst (IsWalked taken key_for number (grown events number old.0)) (same_Some found.0 live (sym found.1 ∙ live_there)) found.2)

  pub runs_then : (number : ℕ) (lane : CertLane) → slice_get lanes number ≡ Some lane → running_at new number ≡ runs_after (rules_for taken key_for) None None (whole (turn_of events number lane))
  runs_then number lane there =
      let found = walked_after number lane there in
      ap (option_and_then runs_in) found.1 ∙ found.2.keeps.runs ∙ (remembers (rules_for taken key_for) (events_of number (grown events number lane)) nothing_yet).1
      ∙ ap (runs_after (rules_for taken key_for) None None) (grown_events events number lane)
