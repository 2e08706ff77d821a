-- Entries in turn stay clean, event by event and lane by lane.
use Rattle.std.proofs.Common.{◌≡◌, ℕ, ◌+◌, List, [], ◌∷◌, ◌++◌, length, Option, Some, None, refl, sym, ap, ◌∙◌, subst, append_assoc, append-nil}
use Rattle.std.specs.Prelude.{IfNone}
use Rattle.std.proofs.lemmas.List.Elements.{All-nil}
use Rattle.std.proofs.lemmas.Option.{none-some}
use Rattle.audit_model.specs.declared.event.Event.{Event}
use Rattle.audit_model.specs.declared.event.Key.{Key}
use Rattle.audit_model.specs.declared.pair.Pair.{Pair}
use Rattle.audit_model.specs.declared.sighting.SightId.{SightId}
use Rattle.audit_model.specs.declared.certificate.Certificate.{Certificate}
use Rattle.audit_model.specs.declared.verdict.Breach.{Breach}
use Rattle.audit_model.specs.Event.{key_of}
use Rattle.audit_model.specs.Breach.{lesser}
use Rattle.audit_model.specs.Least.{IsLeast}
use Rattle.audit_sightings.specs.Intake.{Taken}
use Rattle.audit_placement.specs.declared.entry.Entry.{Entry}
use Rattle.audit_placement.specs.Clean.{IsFine, IsClean, Takes}
use Rattle.audit_placement.specs.Entries.{entry_of, entries_from, entries}
use Rattle.audit_placement.specs.Named.{AllNamed}
use Rattle.audit_placement.specs.Shows.{ShowsByStamps, ShowsPlaced, ShowsAnUnplaced}
use Rattle.audit_placement.proofs.CleanMore.{clean_more}
use Rattle.audit_placement.proofs.CleanNamed.{clean_named}
use Rattle.audit_placement.proofs.CleanSteps.{clean_shows_nothing}
use Rattle.audit_placement.proofs.LeastOfWhole.{least_whole}
use Rattle.audit_placement.proofs.Turns.{last_of, last_push, entries_push}

-- no entry is clean where nothing is noted
pub clean_none : (taken : Taken) (noted : SightId → Option Key) → ((sight : SightId) → noted sight ≡ None) → IsClean taken noted []
clean_none taken noted none = record {
  fine = All-nil (IsFine taken noted);
  once = λ sight. rw (none sight) refl;
  order = λ iface index before at first second. absurd (none-some before (sym (none _) ∙ first));
}

-- events of a lane so far: the last key, and what is clean behind the earlier entries
pub record CleanTurn (taken : Taken) (old now : SightId → Option Key) (pair : Option Pair) (events : List Event) (last : Option Key) : Type 0 where
  pub last_key : last ≡ last_of None events
  pub clean : (number : ℕ) (earlier : List Entry) → IsClean taken old earlier → IsClean taken now (earlier ++ entries_from pair number 0 None events)

pub clean_start : (taken : Taken) (noted : SightId → Option Key) (pair : Option Pair) → CleanTurn taken noted noted pair [] None
clean_start taken noted pair = record {
  last_key = refl;
  clean = λ number earlier clean. rw (append-nil earlier) clean;
}

-- one event more
pub clean_turn : (taken : Taken) (old mid now : SightId → Option Key) (pair : Option Pair) (events more : List Event) (last : Option Key) (event : Event) (key : Key)
    → CleanTurn taken old mid pair events last → more ≡ events ++ event ∷ [] → key ≡ key_of event → Takes taken mid pair last event now
    → CleanTurn taken old now pair more (Some key)
clean_turn taken old mid now pair events more last event key turn is same takes = record {
  last_key = ap Some same ∙ sym (last_push None events event) ∙ ap (last_of None) (sym is);
  clean = λ number earlier clean.
      let so_far = entries_from pair number 0 None events in
      let entry = entry_of pair number (0 + length events) (last_of None events) event in
      let grown : earlier ++ entries_from pair number 0 None more ≡ (earlier ++ so_far) ++ entry ∷ [] =
      ap (λ (es : List Event). earlier ++ entries_from pair number 0 None es) is
      ∙ ap (λ (es : List Entry). earlier ++ es) (entries_push pair number 0 None events event)
      ∙ sym (append_assoc earlier so_far (entry ∷ [])) in
      let before : IsClean taken mid ((earlier ++ so_far) ++ []) = rw (append-nil (earlier ++ so_far)) (turn.clean number earlier clean) in
      let taking : Takes taken mid pair (last_of None events) event now = subst (λ (k : Option Key). Takes taken mid pair k event now) turn.last_key takes in
      subst (IsClean taken now) (sym grown) (clean_more taken mid now (earlier ++ so_far) [] entry before taking refl);
}

-- where a clean certificate shows nothing else, it names what is there
pub clean_names : (taken : Taken) (noted : SightId → Option Key) (certificate : Certificate) (of_unplaced : Option Breach)
    → IsClean taken noted (entries certificate) → IfNone of_unplaced (AllNamed taken certificate)
clean_names taken noted certificate None clean = clean_named taken noted certificate clean
clean_names taken noted certificate (Some b) clean = tt

-- a clean certificate shows what isn't placed alone
pub clean_whole : (taken : Taken) (noted : SightId → Option Key) (certificate : Certificate) (of_unplaced : Option Breach)
    → IsClean taken noted (entries certificate) → IsLeast (ShowsAnUnplaced taken certificate) of_unplaced → IsLeast (ShowsByStamps taken certificate) of_unplaced
clean_whole taken noted certificate of_unplaced clean unplaced =
    least_whole taken certificate None of_unplaced of_unplaced (clean_shows_nothing taken noted certificate clean) unplaced (none_lesser of_unplaced)
  where
    none_lesser : (o : Option Breach) → o ≡ lesser None o
    none_lesser None = refl
    none_lesser (Some b) = refl
