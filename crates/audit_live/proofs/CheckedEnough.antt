-- The tenancies that are checked in a turn are enough.
use Rattle.std.proofs.Common.{◌≡◌, ◌≢◌, ◌≤◌, ◌<◌, ◌++◌, inl, inr, ℕ, Bool, true, false, List, [], ◌∷◌, length, min, drop, Option, Some, None, refl, sym, ap, ◌∙◌, subst, arith}
use Rattle.std.specs.Prelude.{Contains, IfSome, if◌then◌else◌, option_to_list, slice_get}
use Rattle.std.specs.List.{AllByRecursion, flat_map}
use Rattle.std.specs.Option.{option_and_then}
use Rattle.std.proofs.lemmas.Bool.{lt-ltb}
use Rattle.std.proofs.lemmas.List.Elements.{Contains-append_cases, Contains-append_left, Contains-append_right}
use Rattle.std.proofs.lemmas.Option.{none-some, option_and_then_some, same_Some, slice_get_within}
use Rattle.audit_lane.specs.Seen.{kept_of}
use Rattle.audit_model.specs.declared.certificate.CertLane.{CertLane}
use Rattle.audit_model.specs.declared.event.Event.{Event}
use Rattle.audit_model.specs.declared.verdict.Tenancy.{Tenancy}
use Rattle.audit_prefix.specs.Turn.{Covers, KnowsHolders, MayClash, Turn, ended_in, fresh, fresh_in, runs_after, turns_from, whole}
use Rattle.audit_prefix.specs.Walk.{Memory, nothing_yet, remembered_all}
use Rattle.audit_prefix.proofs.Continuing.{wholes}
use Rattle.audit_prefix.proofs.Covering.{found_in, fresh_are, remembered_cut, remembers}
use Rattle.audit_prefix.proofs.Holders.{in_all as in_turns}
use Rattle.audit_rules.specs.Keys.{KeyFor}
use Rattle.audit_server.specs.Placed.{Placed}
use Rattle.audit_server.specs.Rules.{Rules}
use Rattle.audit_server.specs.Whole.{all_tenancies}
use Rattle.audit_sightings.specs.Intake.{Taken}
use Rattle.audit_whole.specs.CaptureRun.{rules_for}
use Rattle.audit_live.specs.declared.holders.Holders.{Holders}
use Rattle.audit_live.specs.declared.lane.LiveLane.{LiveLane}
use Rattle.audit_live.specs.CheckedTenancies.{AreTouched, checked_of, fresh_at, fresh_of, held_by, is_past_last}
use Rattle.audit_live.specs.Holding.{held_in, holder_of, runs_in, running_at}
use Rattle.audit_live.specs.Walked.{events_of, memory_of}
use Rattle.audit_live.proofs.Fresh.{fresh_there}
use Rattle.audit_live.proofs.LaneTurns.{born_by, born_in_lane, fresh_in_whole, fresh_runs, has_events, lane_of_events, no_more, turn_at, turn_there, whole_runs}
use Rattle.audit_live.proofs.Lists.{drop_append, in_flat, in_some, some_in, there_is, to_flat}
use Rattle.audit_live.proofs.Outcomes.{IsAfter, turn_of}

-- at the last horizon at the latest; before the first one nothing stands
abbrev pub ByLast : Option ℕ → Placed → Type 0
ByLast None e = ⊥
ByLast (Some horizon) e = e.at.key.moment ≤ horizon

nothing : (es : List Placed) → AllByRecursion (λ (e : Placed). ⊥) es → es ≡ []
nothing [] none = refl
nothing (e ∷ es) none = absurd none.0

module _ (taken : Taken) (key_for : KeyFor) where
  abbrev pub w : Rules
  w = rules_for taken key_for

  -- what was placed before isn't past the last horizon
  pub not_past : (last : Option ℕ) (es : List Placed) (r : Tenancy) → AllByRecursion (ByLast last) es → runs_after w None None es ≡ Some r → IfSome last (λ horizon. r.born.key.moment ≤ horizon) × ((last ≡ None) → ⊥)
  not_past None es r none runs = absurd (none-some r (sym (ap (runs_after w None None) (nothing es none)) ∙ runs))
  not_past (Some horizon) es r by_then runs = (born_by w horizon es r by_then runs, λ is. none-some horizon (sym is))

  module _ (events : List (ℕ × Event)) (number : ℕ) (lane : CertLane) (live : LiveLane) (after : IsAfter taken key_for events number lane live) where
    abbrev turn : Turn
    turn = turn_of events number lane

    -- the one that runs
    pub runs_now : runs_in live ≡ runs_after w None None (whole turn)
    runs_now = after.keeps.runs ∙ (remembers w (whole turn) nothing_yet).1

    -- what is fresh of the lane is fresh of its turn
    pub fresh_same : fresh_of live ≡ fresh_in w turn
    fresh_same =
        let m : Memory = memory_of taken key_for number lane in
        let since : List Tenancy = ended_in w m.allocation m.runs turn.more in
        let ended : (remembered_all w nothing_yet (whole turn)).ended ≡ m.ended ++ since = ap (λ (n : Memory). n.ended) (remembered_cut w turn.before turn.more nothing_yet) ∙ (remembers w turn.more m).2 in
        let kept : (kept_of live.state).ended ≡ m.ended ++ since = after.keeps.ended ∙ ended in
        ap (λ ts. drop (min live.checked (length ts)) ts ++ option_to_list (runs_in live)) kept
        ∙ ap (λ ts. ts ++ option_to_list (runs_in live)) (drop_append m.ended since live.checked after.checked')
        ∙ ap (λ o. since ++ option_to_list o) after.keeps.runs
        ∙ sym (fresh_are w turn since ended)

module _ (taken : Taken) (key_for : KeyFor) (lanes : List CertLane) (events : List (ℕ × Event)) (lives : List LiveLane) (count : length lives ≡ length lanes)
    (after : (number : ℕ) (lane : CertLane) → slice_get lanes number ≡ Some lane → (live : LiveLane) × (slice_get lives number ≡ Some live) × IsAfter taken key_for events number lane live) where
  abbrev turns : List Turn
  turns = turns_from 0 lanes events

  -- the lane of the certificate
  pub lane_for : (number : ℕ) (live : LiveLane) → slice_get lives number ≡ Some live → (lane : CertLane) × (slice_get lanes number ≡ Some lane) × IsAfter taken key_for events number lane live
  lane_for number live there =
      let lane = there_is lanes number (let within = slice_get_within lives number live there in omega (arith, within, count)) in
      let found = after number lane.0 lane.1 in
      (lane.0, lane.1, subst (IsAfter taken key_for events number lane.0) (same_Some found.0 live (sym found.1 ∙ there)) found.2)

  fresh_all : (number : ℕ) (live : LiveLane) (t : Tenancy) → slice_get lives number ≡ Some live → Contains (fresh_of live) t → Contains (all_tenancies (w taken key_for) (wholes turns)) t
  fresh_all number live t there c =
      let lane = lane_for number live there in
      in_turns (w taken key_for) turns (turn_of events number lane.0) t (turn_there events lanes number lane.0 lane.1)
      (fresh_in_whole (w taken key_for) (turn_of events number lane.0) t (subst (λ (ts : List Tenancy). Contains ts t) (fresh_same taken key_for events number lane.0 live lane.2) c))

  fresh_at_all : (number : ℕ) (t : Tenancy) → Contains (fresh_at lives number) t → Contains (all_tenancies (w taken key_for) (wholes turns)) t
  fresh_at_all number t c =
      let one = in_flat fresh_of (option_to_list (slice_get lives number)) t c in
      fresh_all number one.0 t (in_some (slice_get lives number) one.0 one.1) one.2

  running_all : (number : ℕ) (t : Tenancy) → running_at lives number ≡ Some t → Contains (all_tenancies (w taken key_for) (wholes turns)) t
  running_all number t runs =
      option_and_then_some runs_in (slice_get lives number) t runs
      (λ live there is. fresh_all number live t there (Contains-append_right (drop (min live.checked (length (kept_of live.state).ended)) (kept_of live.state).ended) (option_to_list (runs_in live)) t (some_in (runs_in live) t is)))

  module _ (holders : Holders) (last : Option ℕ) (touched : List ℕ) where
    abbrev frees : List Tenancy
    frees = flat_map (fresh_at lives) touched

    frees_all : (t : Tenancy) → Contains frees t → Contains (all_tenancies (w taken key_for) (wholes turns)) t
    frees_all t c = let one = in_flat (fresh_at lives) touched t c in fresh_at_all one.0 t one.2

    held_some : (past : Bool) (o : Option Tenancy) (t : Tenancy) → Contains (if past then option_to_list o else []) t → o ≡ Some t
    held_some true o t c = in_some o t c
    held_some false o t c = absurd (omega (arith, c.1))

    held_all : (t : Tenancy) → Contains (flat_map (held_by lives holders last) frees) t → Contains (all_tenancies (w taken key_for) (wholes turns)) t
    held_all t c =
        let one = in_flat (held_by lives holders last) frees t c in
        option_and_then_some (running_at lives) (holder_of holders one.0.relayed) t (held_some (is_past_last last one.0.born.key.moment) (held_in lives holders one.0.relayed) t one.2)
        (λ number noted runs. running_all number t runs)

    -- all that is checked is a tenancy of a lane
    pub no_others : (t : Tenancy) → Contains (checked_of lives holders last touched) t → Contains (all_tenancies (w taken key_for) (wholes turns)) t
    no_others t c = elim (Contains-append_cases frees (flat_map (held_by lives holders last) frees) t c) [ inl own ↦ frees_all t own | inr held ↦ held_all t held ]

    module _ (are_touched : AreTouched events touched) (before : (number : ℕ) (lane : CertLane) → slice_get lanes number ≡ Some lane → AllByRecursion (ByLast last) (events_of number lane))
        (knows : (number : ℕ) (lane : CertLane) → slice_get lanes number ≡ Some lane → IfSome last (λ horizon. KnowsHolders (w taken key_for) horizon (holder_of holders) (events_of number lane))) where
      -- what is fresh of a lane with events
      own_checked : (number : ℕ) (lane : CertLane) → slice_get lanes number ≡ Some lane → (turn_of events number lane).more ≢ [] → (t : Tenancy) → Contains (fresh_in (w taken key_for) (turn_of events number lane)) t → Contains frees t
      own_checked number lane there some t c = elim (has_events events number events) [
        | inl has ↦
            let found = after number lane there in
            let fresh_is = fresh_there lives number found.0 found.1 ∙ fresh_same taken key_for events number lane found.0 found.2 in
            to_flat (fresh_at lives) touched number t ((are_touched number).1 has) (subst (λ (ts : List Tenancy). Contains ts t) (sym fresh_is) c)
        | inr none ↦ absurd (some (no_more events number lane none))
      ]

      -- one that is born past the last horizon is fresh of a lane with events
      born_checked : (horizon : ℕ) → last ≡ Some horizon → (new : Tenancy) → Contains (fresh (w taken key_for) turns) new → horizon < new.born.key.moment → Contains frees new
      born_checked horizon is new c past =
          let one = found_in (w taken key_for) turns new c in
          let at = turn_at events lanes one.0 one.1 in
          let mine = subst (λ (t : Turn). Contains (fresh_in (w taken key_for) t) new) at.3 one.2 in
          elim (has_events events at.0 events) [
            | inl has ↦
                let found = after at.0 at.1 at.2 in
                let fresh_is = fresh_there lives at.0 found.0 found.1 ∙ fresh_same taken key_for events at.0 at.1 found.0 found.2 in
                to_flat (fresh_at lives) touched at.0 new ((are_touched at.0).1 has) (subst (λ (ts : List Tenancy). Contains ts new) (sym fresh_is) mine)
            | inr none ↦
                let ran = in_some (runs_after (w taken key_for) None None (events_of at.0 at.1)) new
                (subst (λ (ts : List Tenancy). Contains ts new) (fresh_runs (w taken key_for) (turn_of events at.0 at.1) (no_more events at.0 at.1 none)) mine) in
                let born = born_by (w taken key_for) horizon (events_of at.0 at.1) new (subst (λ (o : Option ℕ). AllByRecursion (ByLast o) (events_of at.0 at.1)) is (before at.0 at.1 at.2)) ran in
                absurd (omega (arith, born, past))
          ]

      other_checked : (horizon : ℕ) → last ≡ Some horizon → (number : ℕ) (lane : CertLane) → slice_get lanes number ≡ Some lane → (turn_of events number lane).more ≡ [] → (held new : Tenancy)
          → runs_after (w taken key_for) None None (events_of number lane) ≡ Some held → Contains (fresh (w taken key_for) turns) new → MayClash horizon new held → Contains (flat_map (held_by lives holders last) frees) held
      other_checked horizon is number lane there none held new runs c may =
          let found = after number lane there in
          let lane_is = born_in_lane (w taken key_for) number (events_of number lane) held (lane_of_events number lane) runs in
          let noted = subst (λ (o : Option ℕ). IfSome o (λ h. KnowsHolders (w taken key_for) h (holder_of holders) (events_of number lane))) is (knows number lane there) held runs may.held_on in
          let holder : holder_of holders new.relayed ≡ Some number = ap (holder_of holders) (sym may.same_address) ∙ noted ∙ ap Some lane_is in
          let still : runs_in found.0 ≡ Some held =
          runs_now taken key_for events number lane found.0 found.2 ∙ ap (runs_after (w taken key_for) None None) (whole_runs (w taken key_for) (turn_of events number lane) none) ∙ runs in
          let held_is : held_in lives holders new.relayed ≡ Some held = ap (option_and_then (running_at lives)) holder ∙ ap (option_and_then runs_in) found.1 ∙ still in
          let past : is_past_last last new.born.key.moment ≡ true = ap (λ o. is_past_last o new.born.key.moment) is ∙ lt-ltb horizon new.born.key.moment may.new_born in
          let has : held_by lives holders last new ≡ option_to_list (Some held) =
          ap (λ (b : Bool). if b then option_to_list (held_in lives holders new.relayed) else []) past ∙ ap option_to_list held_is in
          to_flat (held_by lives holders last) frees new held (born_checked horizon is new c may.new_born) (subst (λ (ts : List Tenancy). Contains ts held) (sym has) (some_in (Some held) held refl))

      -- what is checked covers what may clash
      pub covers : Covers (w taken key_for) last turns (checked_of lives holders last touched)
      covers = record {
        touched = λ turn c some t k.
            let at = turn_at events lanes turn c in
            Contains-append_left frees (flat_map (held_by lives holders last) frees) t
            (own_checked at.0 at.1 at.2 (λ none. some (ap (λ (u : Turn). u.more) at.3 ∙ none)) t (subst (λ (u : Turn). Contains (fresh_in (w taken key_for) u) t) at.3 k));
        others = λ turn c none held new runs k may.
            let at = turn_at events lanes turn c in
            let ran = subst (λ (u : Turn). runs_after (w taken key_for) None None u.before ≡ Some held) at.3 runs in
            Contains-append_right frees (flat_map (held_by lives holders last) frees) held
            (by_last last refl at.0 at.1 at.2 (ap (λ (u : Turn). u.more) (sym at.3) ∙ none) held new ran k may);
      } where
        by_last : (o : Option ℕ) → last ≡ o → (number : ℕ) (lane : CertLane) → slice_get lanes number ≡ Some lane → (turn_of events number lane).more ≡ [] → (held new : Tenancy)
            → runs_after (w taken key_for) None None (events_of number lane) ≡ Some held → Contains (fresh (w taken key_for) turns) new → IfSome last (λ h. MayClash h new held)
            → Contains (flat_map (held_by lives holders last) frees) held
        by_last None is number lane there none held new runs c may = absurd ((not_past taken key_for last (events_of number lane) held (before number lane there) runs).1 is)
        by_last (Some horizon) is number lane there none held new runs c may =
            other_checked horizon is number lane there none held new runs c (subst (λ (o : Option ℕ). IfSome o (λ h. MayClash h new held)) is may)
