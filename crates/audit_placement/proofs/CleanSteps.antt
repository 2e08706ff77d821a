-- Clean entries show nothing, and stay clean as one more comes.
use Rattle.std.proofs.Common.{◌≡◌, ◌<◌, ◌≤◌, ◌+◌, Bool, true, false, cond, List, [], ◌∷◌, ◌++◌, All, Option, Some, None, inl, inr, refl, sym, ap, ◌∙◌, subst, append_assoc, arith}
use Rattle.std.specs.Prelude.{is_some}
use Rattle.std.proofs.lemmas.Bool.{true≢false}
use Rattle.std.proofs.lemmas.List.Elements.{All-nil, All-cons, All-head, All-tail}
use Rattle.std.proofs.lemmas.List.Sums.{sum_by-cons, sum_by-append}
use Rattle.std.proofs.lemmas.Option.{none-some, same_Some}
use Rattle.audit_model.specs.declared.certificate.Certificate.{Certificate}
use Rattle.audit_model.specs.declared.event.At.{At}
use Rattle.audit_model.specs.declared.event.Event.{Event}
use Rattle.audit_model.specs.declared.event.Event.TheVariants.{In, Act, Out}
use Rattle.audit_model.specs.declared.event.Key.{Key}
use Rattle.audit_model.specs.declared.sighting.SightId.{SightId}
use Rattle.audit_model.specs.declared.verdict.Breach.{Breach}
use Rattle.audit_model.specs.Least.{IsLeast}
use Rattle.audit_sightings.specs.Intake.{Taken}
use Rattle.audit_placement.specs.declared.entry.Entry.{Entry}
use Rattle.audit_placement.specs.Checks.{IsOneOf, event_checks, breach_of}
use Rattle.audit_placement.specs.Clean.{IsFine, IsClean, times_placed, one_if}
use Rattle.audit_placement.specs.Entries.{entries}
use Rattle.audit_placement.specs.FirstPlace.{places, first_place, is_placed}
use Rattle.audit_placement.specs.Shows.{ShowsFrom, ShowsPlaced}
use Rattle.audit_placement.proofs.AmongSteps.{same_itself}
use Rattle.audit_placement.proofs.LeastOfChecks.{first_least, ascending}

pub all_left : {X : Type 0} (P : X → Type 0) (xs ys : List X) → All P (xs ++ ys) → All P xs
all_left P [] ys all = All-nil P
all_left P (x ∷ xs) ys all = All-cons P x xs (All-head P x (xs ++ ys) all) (all_left P xs ys (All-tail P x (xs ++ ys) all))

pub all_right : {X : Type 0} (P : X → Type 0) (xs ys : List X) → All P (xs ++ ys) → All P ys
all_right P [] ys all = all
all_right P (x ∷ xs) ys all = all_right P xs ys (All-tail P x (xs ++ ys) all)

-- the number of the entries that place the sighting
pub times_cons : (entry : Entry) (es : List Entry) (s : SightId) → times_placed (entry ∷ es) s ≡ one_if (places entry.event s) + times_placed es s
times_cons entry es s = sum_by-cons (λ (e : Entry). one_if (places e.event s)) entry es

pub times_append : (xs ys : List Entry) (s : SightId) → times_placed (xs ++ ys) s ≡ times_placed xs s + times_placed ys s
times_append xs ys s = sum_by-append (λ (e : Entry). one_if (places e.event s)) xs ys

times_by : (e : Entry) (es : List Entry) (s : SightId) (here : Bool) → places e.event s ≡ here → (is_some (first_place es s) ≡ true → 0 < times_placed es s)
    → is_some (cond here (Some e.at) (first_place es s)) ≡ true → 0 < one_if here + times_placed es s
times_by e es s true is rest found = omega arith
times_by e es s false is rest found = omega (arith, rest found)

-- a sighting that is placed is placed by one of them
times_found : (es : List Entry) (s : SightId) → is_some (first_place es s) ≡ true → 0 < times_placed es s
times_found [] s found = absurd (true≢false (sym found))
times_found (e ∷ es) s found = omega (arith, times_cons e es s, times_by e es s (places e.event s) refl (times_found es s) found)

pub one_at_most : (b : Bool) → one_if b ≤ 1
one_at_most true = omega arith
one_at_most false = omega arith

module _ (taken : Taken) (noted : SightId → Option Key) where
  -- what an earlier one places isn't placed again
  not_again : (earlier later : List Entry) (e : Entry) → ((s : SightId) → times_placed (earlier ++ e ∷ later) s ≤ 1) → (s : SightId)
      → places e.event s ≡ true → ¬ (is_some (first_place earlier s) ≡ true)
  not_again earlier later e once s this found =
      omega (arith, once s, times_append earlier (e ∷ later) s, times_cons e later s, ap one_if this, times_found earlier s found)

  no_second : (earlier later : List Entry) (e : Entry) (event : Event) → e.event ≡ event → ((s : SightId) → times_placed (earlier ++ e ∷ later) s ≤ 1) → ¬ (is_placed earlier event ≡ true)
  no_second earlier later e (In sight key) is once = λ placed. not_again earlier later e once sight (ap (λ (x : Event). places x sight) is ∙ same_itself sight) placed
  no_second earlier later e (Act arrival departure key) is once = λ placed. true≢false (sym placed)
  no_second earlier later e (Out sight key) is once = λ placed. not_again earlier later e once sight (ap (λ (x : Event). places x sight) is ∙ same_itself sight) placed

  none_broken : (e : Entry) (b : Breach) → IsFine taken noted e → ¬ IsOneOf (event_checks taken false e.pair e.last e.event) e.at b
  none_broken e b fine =
      let asked = event_checks taken false e.pair e.last e.event in
      subst (λ o. IsLeast (IsOneOf asked e.at) (breach_of e.at o)) fine.own (first_least asked e.at (ascending taken false e.pair e.last e.event)) b

  shows_not : (earlier : List Entry) (e : Entry) (b : Breach) (placed : Bool) → is_placed earlier e.event ≡ placed → IsFine taken noted e → ¬ (is_placed earlier e.event ≡ true)
      → ¬ IsOneOf (event_checks taken placed e.pair e.last e.event) e.at b
  shows_not earlier e b true is fine not = absurd (not is)
  shows_not earlier e b false is fine not = none_broken e b fine

  none_from : (earlier es : List Entry) → ((s : SightId) → times_placed (earlier ++ es) s ≤ 1) → All (IsFine taken noted) es → (b : Breach) → ¬ ShowsFrom taken earlier es b
  none_from earlier [] once fine b shown = shown
  none_from earlier (e ∷ es) once fine b (inl shown) =
      shows_not earlier e b (is_placed earlier e.event) refl (All-head (IsFine taken noted) e es fine) (no_second earlier es e e.event refl once) shown
  none_from earlier (e ∷ es) once fine b (inr shown) =
      none_from (earlier ++ e ∷ []) es (λ s. subst (λ (all : List Entry). times_placed all s ≤ 1) (sym (append_assoc earlier (e ∷ []) es)) (once s))
      (All-tail (IsFine taken noted) e es fine) b shown

  noted_by : (e : Entry) (es : List Entry) (s : SightId) (at : At) (here : Bool) → places e.event s ≡ here → IsFine taken noted e
      → (first_place es s ≡ Some at → noted s ≡ Some at.key) → cond here (Some e.at) (first_place es s) ≡ Some at → noted s ≡ Some at.key
  noted_by e es s at true is fine rest found = fine.told s is ∙ ap Some (ap (λ (a : At). a.key) (same_Some e.at at found))
  noted_by e es s at false is fine rest found = rest found

  -- what is placed first is noted
  pub first_noted : (es : List Entry) → All (IsFine taken noted) es → (s : SightId) (at : At) → first_place es s ≡ Some at → noted s ≡ Some at.key
  first_noted [] fine s at found = absurd (none-some at found)
  first_noted (e ∷ es) fine s at found =
      noted_by e es s at (places e.event s) refl (All-head (IsFine taken noted) e es fine) (first_noted es (All-tail (IsFine taken noted) e es fine) s at) found

  -- a clean certificate shows no breach of what it places
  pub clean_shows_nothing : (certificate : Certificate) → IsClean taken noted (entries certificate) → (b : Breach) → ¬ ShowsPlaced taken certificate b
  clean_shows_nothing certificate clean b (inl shown) =
      none_from [] (entries certificate) (λ s. omega (arith, clean.once s, one_at_most (is_some (noted s)))) clean.fine b shown
  clean_shows_nothing certificate clean b (inr shown) =
      let neighbours = shown.1 in
      true≢false (sym (clean.order shown.0 neighbours.index neighbours.before.key neighbours.at.key
      (first_noted (entries certificate) clean.fine _ neighbours.before neighbours.first)
      (first_noted (entries certificate) clean.fine _ neighbours.at neighbours.second)) ∙ neighbours.not_greater)

  some_placed : (es : List Entry) → IsClean taken noted es → (s : SightId) (o : Option Key) → noted s ≡ o → (p : Option At) → first_place es s ≡ p → is_some o ≡ is_some p
  some_placed es clean s None is None at = refl
  some_placed es clean s (Some key) is (Some at) there = refl
  some_placed es clean s None is (Some at) there = absurd (none-some at.key (sym is ∙ first_noted es clean.fine s at there))
  some_placed es clean s (Some key) is None there = absurd (unplaced es s there (omega (arith, clean.once s, ap (λ (x : Option Key). one_if (is_some x)) is)))
    where
      unplaced_by : (e : Entry) (es : List Entry) (s : SightId) (here : Bool) → places e.event s ≡ here → (first_place es s ≡ None → ¬ (0 < times_placed es s))
          → cond here (Some e.at) (first_place es s) ≡ None → ¬ (0 < one_if here + times_placed es s)
      unplaced_by e es s true is rest nowhere = absurd (none-some e.at (sym nowhere))
      unplaced_by e es s false is rest nowhere = λ some. rest nowhere (omega (arith, some))

      unplaced : (es : List Entry) (s : SightId) → first_place es s ≡ None → ¬ (0 < times_placed es s)
      unplaced [] s nowhere = λ some. omega (arith, some)
      unplaced (e ∷ es) s nowhere = λ some. unplaced_by e es s (places e.event s) refl (unplaced es s) nowhere (omega (arith, some, times_cons e es s))

  -- it is noted whether a sighting is placed
  pub clean_tells : (es : List Entry) → IsClean taken noted es → (s : SightId) → is_some (noted s) ≡ is_some (first_place es s)
  clean_tells es clean s = some_placed es clean s (noted s) refl (first_place es s) refl
