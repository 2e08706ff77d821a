-- What a turn reports, by its parts.
use Rattle.std.proofs.Common.{◌≡◌, ◌<◌, ℕ, List, All, Option, Some, None, get_or, refl, sym, ◌∙◌, subst}
use Rattle.std.proofs.lemmas.List.{get_or_default}
use Rattle.std.proofs.lemmas.List.Elements.{All-map}
use Rattle.std.proofs.lemmas.Option.{none-some}
use Rattle.audit_model.specs.declared.event.Event.{Event}
use Rattle.audit_model.specs.declared.verdict.Breach.{Breach}
use Rattle.audit_model.specs.declared.verdict.Tenancy.{Tenancy}
use Rattle.audit_model.specs.Clash.{ShowsClash}
use Rattle.audit_model.specs.Least.{IsLeast}
use Rattle.audit_rules.specs.Keys.{KeyFor}
use Rattle.audit_sightings.specs.Intake.{Taken}
use Rattle.audit_live.specs.declared.holders.Holders.{Holders}
use Rattle.audit_live.specs.declared.lanes.LiveLanes.{LiveLanes}
use Rattle.audit_live.specs.CheckedTenancies.{AreTouched, checked_of}
use Rattle.audit_live.specs.Chain.{Chain}
use Rattle.audit_live.specs.Holding.{running_at}
use Rattle.audit_live.specs.Turn.{NotesChecked, NotesRunning, NotesTurn, TakesTurn, Walks}

-- the lanes that have events are there
pub all_touched : (events : List (ℕ × Event)) (touched : List ℕ) (count : ℕ) → AreTouched events touched → All (λ (e : ℕ × Event). e.0 < count) events → All (λ (n : ℕ). n < count) touched
all_touched events touched count are within = λ k d there.
    let found = (are (get_or touched k d)).0 (k, there, get_or_default touched k _ d there) in
    subst (λ (n : ℕ). n < count) found.2 (All-map (λ (n : ℕ). n < count) (λ (e : ℕ × Event). e.0) events within found.0 _ found.1)

pub notes_turn : (last : Option ℕ) (touched : List ℕ) (old mid new : LiveLanes) → Chain NotesChecked old.lanes.items touched mid.lanes.items → mid.owed ≡ old.owed → mid.holders ≡ old.holders
    → Chain (λ (was : Holders) (number : ℕ) (is : Holders). NotesRunning mid.lanes.items last was (running_at mid.lanes.items number) is) mid.holders touched new.holders
    → new.owed ≡ mid.owed → new.lanes ≡ mid.lanes → NotesTurn last touched old new
notes_turn last touched old mid new checked owed holders running owed_now lanes_now = record {
  lanes = subst (λ ls. Chain NotesChecked old.lanes.items touched ls.items) (sym lanes_now) checked;
  holders = subst (λ ls. Chain (λ (was : Holders) (number : ℕ) (is : Holders). NotesRunning ls.items last was (running_at ls.items number) is) old.holders touched new.holders) (sym lanes_now)
      (subst (λ (hs : Holders). Chain (λ (was : Holders) (number : ℕ) (is : Holders). NotesRunning mid.lanes.items last was (running_at mid.lanes.items number) is) hs touched new.holders) holders running);
  owed = owed_now ∙ owed;
}

module _ (taken : Taken) (key_for : KeyFor) (last : Option ℕ) (old mid : LiveLanes) (events : List (ℕ × Event)) (touched : List ℕ) (are : AreTouched events touched) where
  pub turn_by_lanes : (of_lanes : Option Breach) (breach : Breach) → of_lanes ≡ Some breach → Walks taken key_for old events mid of_lanes → (new : LiveLanes) → TakesTurn taken key_for last old events new (Some breach)
  turn_by_lanes of_lanes breach is walks new = record {
    mid = mid;
    of_lanes = Some breach;
    walks = subst (Walks taken key_for old events mid) is walks;
    touched = touched;
    are_touched = are;
    reports = refl;
    notes = λ none. absurd (none-some breach (sym none));
  }

  module _ (of_lanes : Option Breach) (none : of_lanes ≡ None) (walks : Walks taken key_for old events mid of_lanes) (checked : List Tenancy) (checked_is : checked ≡ checked_of mid.lanes.items mid.holders last touched)
      (found : Option Breach) (least : IsLeast (ShowsClash checked) found) where
    pub turn_by_clash : (new : LiveLanes) → (found ≡ None → NotesTurn last touched mid new) → TakesTurn taken key_for last old events new found
    turn_by_clash new notes = record {
      mid = mid;
      of_lanes = None;
      walks = subst (Walks taken key_for old events mid) none walks;
      touched = touched;
      are_touched = are;
      reports = subst (λ (ts : List Tenancy). IsLeast (ShowsClash ts) found) checked_is least;
      notes = notes;
    }
