-- What a turn reports is the breach of the whole, and what is known goes on.
use Rattle.std.proofs.Common.{◌≡◌, ◌+◌, ◌≤◌, ◌<◌, ◌++◌, inl, inr, ℕ, List, length, map, Option, Some, None, refl, sym, ap, ◌∙◌, subst, arith, length-append}
use Rattle.std.specs.Prelude.{Contains, IfSome, slice_get, vec_len}
use Rattle.std.proofs.lemmas.List.{length-map}
use Rattle.std.proofs.lemmas.Bool.{cases_lt}
use Rattle.std.proofs.lemmas.List.Elements.{All-weaker}
use Rattle.std.proofs.lemmas.Option.{none-some}
use Rattle.audit_model.specs.declared.certificate.CertDrop.{CertDrop}
use Rattle.audit_model.specs.declared.certificate.CertLane.{CertLane}
use Rattle.audit_model.specs.declared.event.Event.{Event}
use Rattle.audit_model.specs.declared.extension.Extension.{Extension}
use Rattle.audit_model.specs.declared.verdict.Breach.{Breach}
use Rattle.audit_model.specs.declared.verdict.Tenancy.{Tenancy}
use Rattle.audit_model.specs.Clash.{ShowsClash}
use Rattle.audit_model.specs.Event.{key_of}
use Rattle.audit_model.specs.EventCount.{event_count}
use Rattle.audit_model.specs.Least.{IsLeast}
use Rattle.audit_order.specs.Grown.{Fits, empty_lane}
use Rattle.audit_order.specs.Kept.{Keeps}
use Rattle.audit_placement.specs.Shows.{ShowsPlaced}
use Rattle.audit_prefix.specs.Advance.{OfMoments}
use Rattle.audit_prefix.specs.Live.{IsGoing, MayAdvance}
use Rattle.audit_prefix.specs.Breaches.{ForEachTurn, LeastOf, LiveBreach, OrElse}
use Rattle.audit_prefix.specs.Turn.{Covers, KnowsHolders, Turn, fresh_in, turns_of}
use Rattle.audit_prefix.proofs.Continuing.{wholes}
use Rattle.audit_prefix.proofs.Extending.{new_lanes_are}
use Rattle.audit_prefix.proofs.Living.{goes_on}
use Rattle.audit_prefix.proofs.Passing.{passes_of_none}
use Rattle.audit_prefix.proofs.Turning.{breach_of_turn}
use Rattle.audit_prefix.proofs.Holders.{in_all as in_turns}
use Rattle.audit_rules.specs.Keys.{KeyFor}
use Rattle.audit_server.specs.Placed.{Placed}
use Rattle.audit_server.specs.Whole.{all_tenancies}
use Rattle.audit_sightings.specs.Intake.{Taken}
use Rattle.audit_whole.specs.CaptureRun.{rules_for}
use Rattle.audit_whole.specs.Glued.{lanes_from}
use Rattle.audit_live.specs.declared.front.Front.{Front}
use Rattle.audit_live.specs.declared.holders.Holders.{Holders}
use Rattle.audit_live.specs.declared.lane.LiveLane.{LiveLane}
use Rattle.audit_live.specs.declared.lanes.LiveLanes.{LiveLanes}
use Rattle.audit_live.specs.CheckedTenancies.{checked_of}
use Rattle.audit_live.specs.Chain.{Chain}
use Rattle.audit_live.specs.Holding.{holder_of}
use Rattle.audit_live.specs.Knows.{Knows, TakesWithNew, TakesExtension, stands_for}
use Rattle.audit_live.specs.Turn.{AddsLane, TakesTurn}
use Rattle.audit_live.specs.Walked.{AreNoted, AreWalked, IsSummed, events_of}
use Rattle.audit_live.proofs.CheckedEnough.{covers, no_others}
use Rattle.audit_live.proofs.CheckedNoted.{noted_length}
use Rattle.audit_live.proofs.HoldersKnown.{known_then}
use Rattle.audit_live.proofs.Known.{stays_same}
use Rattle.audit_live.proofs.LaneShare.{all_holders, all_length}
use Rattle.audit_live.proofs.LaneTurns.{fresh_in_whole, fresh_runs}
use Rattle.audit_live.proofs.Lists.{some_in}
use Rattle.audit_live.proofs.NewLanes.{all_walked, few_events, grown_at, grown_events, noted_with, stood_by}
use Rattle.audit_live.proofs.Outcomes.{IsAfter, lane_after, least_of_turns}
use Rattle.audit_live.proofs.Summed.{turn_summed}
use Rattle.audit_live.proofs.WalkedOn.{runs_then, walked_then}

module _ (taken : Taken) (key_for : KeyFor) (last : Option ℕ) (old new : Front) (extension : Extension) (knows : Knows taken key_for last old) (fits : Fits old.placing.certificate extension)
    (past : OfMoments (λ moment. IfSome last (λ before. before < moment)) extension) (found : Option Breach) (takes_extension : TakesExtension taken key_for last old extension new found) where
  abbrev lanes_then : List CertLane
  lanes_then = old.placing.certificate.lanes ++ map empty_lane extension.lanes

  room : event_count lanes_then + length extension.events ≤ 4294967295
  room = let few = few_events old.placing.certificate.lanes extension.lanes in let all = fits.room.few_events in omega (arith, few, all)

  count_old : length old.lanes.lanes.items ≡ length old.placing.certificate.lanes
  count_old = let many = knows.lanes in let ok = old.lanes.lanes.ok in omega (arith, many, ok)

  same : lanes_from 0 new.placing.certificate.lanes ≡ wholes (turns_of old.placing.certificate extension)
  same = new_lanes_are old.placing.certificate extension new.placing.certificate takes_extension.extends

  abbrev all_of : List Tenancy
  all_of = all_tenancies (rules_for taken key_for) (lanes_from 0 new.placing.certificate.lanes)

  in_all : (turn : Turn) → Contains (turns_of old.placing.certificate extension) turn → (t : Tenancy) → Contains (fresh_in (rules_for taken key_for) turn) t → Contains all_of t
  in_all turn c t k =
      subst (λ (ls : List (List Placed)). Contains (all_tenancies (rules_for taken key_for) ls) t) (sym same)
      (in_turns (rules_for taken key_for) (turns_of old.placing.certificate extension) turn t c (fresh_in_whole (rules_for taken key_for) turn t k))

  -- all tenancies are enough to check
  covers_all : Covers (rules_for taken key_for) last (turns_of old.placing.certificate extension) all_of
  covers_all = record {
    touched = λ turn c some t k. in_all turn c t k;
    others = λ turn c none held new_one runs k may.
        in_all turn c held (subst (λ (ts : List Tenancy). Contains ts held) (sym (fresh_runs (rules_for taken key_for) turn none)) (some_in _ held runs));
  }

  module _ (with_new : LiveLanes) (adds : Chain AddsLane old.lanes.lanes.items extension.lanes with_new.lanes.items) (holders : with_new.holders ≡ old.lanes.holders)
      (takes : TakesTurn taken key_for last with_new extension.events new.lanes found) where
    begins : AreWalked taken key_for lanes_then with_new.lanes.items × (length with_new.lanes.items ≡ length lanes_then)
    begins = all_walked taken key_for extension.lanes old.placing.certificate.lanes old.lanes.lanes.items with_new.lanes.items count_old knows.walked adds

    of_turns : LeastOf (ForEachTurn taken key_for (turns_of old.placing.certificate extension)) takes.of_lanes
    of_turns = least_of_turns taken knows.numbered key_for lanes_then extension.events with_new takes.mid takes.of_lanes begins.1 begins.0 room takes.walks

    count_mid : length takes.mid.lanes.items ≡ length lanes_then
    count_mid = all_length taken key_for takes.walks.shown with_new takes.mid takes.walks.chain ∙ begins.1

    knew : (number : ℕ) (lane : CertLane) → slice_get lanes_then number ≡ Some lane → IfSome last (λ horizon. KnowsHolders (rules_for taken key_for) horizon (holder_of takes.mid.holders) (events_of number lane))
    knew = subst (λ (hs : Holders). (number : ℕ) (lane : CertLane) → slice_get lanes_then number ≡ Some lane → IfSome last (λ horizon. KnowsHolders (rules_for taken key_for) horizon (holder_of hs) (events_of number lane)))
        (sym (all_holders taken key_for takes.walks.shown with_new takes.mid takes.walks.chain ∙ holders))
        (noted_with taken key_for last old.placing.certificate.lanes extension.lanes old.lanes.holders knows.noted)

    after : takes.of_lanes ≡ None → (number : ℕ) (lane : CertLane) → slice_get lanes_then number ≡ Some lane
        → (live : LiveLane) × (slice_get takes.mid.lanes.items number ≡ Some live) × IsAfter taken key_for extension.events number lane live
    after none = lane_after taken knows.numbered key_for lanes_then extension.events with_new takes.mid takes.of_lanes begins.1 begins.0 room takes.walks none

    by_lanes : IsLeast (ShowsPlaced taken new.placing.certificate) None → (second : Option Breach) → takes.of_lanes ≡ second
        → OrElse second (IsLeast (ShowsClash (checked_of takes.mid.lanes.items takes.mid.holders last takes.touched))) found → LiveBreach taken key_for new.placing.certificate found
    by_lanes least (Some b) is reports =
        breach_of_turn taken knows.numbered key_for old.placing.certificate extension new.placing.certificate all_of takes_extension.extends knows.going.none (λ t c. c) last knows.going.by_last past covers_all found
        (None, least, (Some b, subst (LeastOf (ForEachTurn taken key_for (turns_of old.placing.certificate extension))) is of_turns, reports))
    by_lanes least None is reports =
        let checked = checked_of takes.mid.lanes.items takes.mid.holders last takes.touched in
        breach_of_turn taken knows.numbered key_for old.placing.certificate extension new.placing.certificate checked takes_extension.extends knows.going.none
        (λ t c. subst (λ (ls : List (List Placed)). Contains (all_tenancies (rules_for taken key_for) ls) t) (sym same)
        (no_others taken key_for lanes_then extension.events takes.mid.lanes.items count_mid (after is) takes.mid.holders last takes.touched t c))
        last knows.going.by_last past
        (covers taken key_for lanes_then extension.events takes.mid.lanes.items count_mid (after is) takes.mid.holders last takes.touched takes.are_touched
        (stood_by last old.placing.certificate extension.lanes knows.going.by_last) knew)
        found (None, least, (None, subst (LeastOf (ForEachTurn taken key_for (turns_of old.placing.certificate extension))) is of_turns, reports))

  by_placement : (first : Option Breach) → IsLeast (ShowsPlaced taken new.placing.certificate) first → OrElse first (TakesWithNew taken key_for last old extension new) found → LiveBreach taken key_for new.placing.certificate found
  by_placement (Some b) least reports = (Some b, least, reports)
  by_placement None least (with_new, adds, owed, holders, takes) = by_lanes with_new adds holders takes least takes.of_lanes refl takes.reports

  -- what is reported is the breach of the whole
  pub breach_of_whole : LiveBreach taken key_for new.placing.certificate found
  breach_of_whole = by_placement takes_extension.of_placement takes_extension.least takes_extension.reports

-- ---- if nothing is reported

not_before : (last : Option ℕ) (horizon : ℕ) → ((IfSome last (λ before. horizon ≤ before) × ((last ≡ None) → ⊥)) → ⊥) → IfSome last (λ before. before ≤ horizon)
not_before None horizon later = tt
not_before (Some before) horizon later = elim (cases_lt before horizon) [
  | inl below ↦ omega (arith, below)
  | inr above ↦ absurd (later (above, λ is. none-some before (sym is)))
]

module _ (taken : Taken) (key_for : KeyFor) (last : Option ℕ) (horizon : ℕ) (old new : Front) (extension : Extension) (knows : Knows taken key_for last old)
    (may : MayAdvance (stands_for taken old last) horizon extension) where
  pub come_past : OfMoments (λ moment. IfSome last (λ before. before < moment)) extension
  come_past = (
    All-weaker (λ (e : ℕ × Event). IfSome last (λ before. before < (key_of e.1).moment) × ((key_of e.1).moment ≤ horizon)) (λ (e : ℕ × Event). IfSome last (λ before. before < (key_of e.1).moment)) (λ e k. k.0) extension.events may.in_turn.0,
    All-weaker (λ (d : CertDrop). IfSome last (λ before. before < d.key.moment) × (d.key.moment ≤ horizon)) (λ (d : CertDrop). IfSome last (λ before. before < d.key.moment)) (λ d k. k.0) extension.drops may.in_turn.1,
  )

  module _ (takes_extension : TakesExtension taken key_for last old extension new None) where
    then_going : IsGoing key_for (stands_for taken new (Some horizon))
    then_going = goes_on key_for (stands_for taken old last) (stands_for taken new (Some horizon)) horizon extension knows.going may
        (record { taken = refl; last = refl; extends = takes_extension.extends; none = breach_of_whole taken key_for last old new extension knows may.fits come_past None takes_extension })

    module _ (with_new : LiveLanes) (adds : Chain AddsLane old.lanes.lanes.items extension.lanes with_new.lanes.items) (holders : with_new.holders ≡ old.lanes.holders)
        (takes : TakesTurn taken key_for last with_new extension.events new.lanes None) where
      no_lane : (second : Option Breach) → takes.of_lanes ≡ second → OrElse second (IsLeast (ShowsClash (checked_of takes.mid.lanes.items takes.mid.holders last takes.touched))) None → takes.of_lanes ≡ None
      no_lane None is reports = is
      no_lane (Some b) is reports = absurd (none-some b reports)

      ends : (number : ℕ) (lane : CertLane) → slice_get (lanes_then taken key_for last old new extension knows may.fits come_past None takes_extension) number ≡ Some lane
          → (live : LiveLane) × (slice_get takes.mid.lanes.items number ≡ Some live) × IsAfter taken key_for extension.events number lane live
      ends = after taken key_for last old new extension knows may.fits come_past None takes_extension with_new adds holders takes (no_lane takes.of_lanes refl takes.reports)

      walked_now : AreWalked taken key_for new.placing.certificate.lanes new.lanes.lanes.items
      walked_now = subst (λ (ls : List CertLane). AreWalked taken key_for ls new.lanes.lanes.items) (sym takes_extension.extends.lanes)
          (walked_then taken key_for (old.placing.certificate.lanes ++ map empty_lane extension.lanes) extension.events takes.mid.lanes.items new.lanes.lanes.items takes.touched takes.are_touched (takes.notes refl).lanes ends)

      noted_now : AreNoted taken key_for (Some horizon) new.placing.certificate.lanes new.lanes.holders
      noted_now number lane there =
          let lanes = old.placing.certificate.lanes ++ map empty_lane extension.lanes in
          let notes = takes.notes refl in
          let was = grown_at extension.events lanes number lane (sym (ap (λ ls. slice_get ls number) takes_extension.extends.lanes) ∙ there) in
          let count : length new.lanes.lanes.items ≡ length lanes = noted_length takes.touched takes.mid.lanes.items new.lanes.lanes.items notes.lanes ∙ count_mid taken key_for last old new extension knows may.fits come_past None takes_extension with_new adds holders takes in
          subst (λ (l : CertLane). KnowsHolders (rules_for taken key_for) horizon (holder_of new.lanes.holders) (events_of number l)) (sym was.2)
          (subst (KnowsHolders (rules_for taken key_for) horizon (holder_of new.lanes.holders)) (sym (grown_events extension.events number was.0))
          (known_then taken key_for last old.placing.certificate extension new.placing.certificate new.lanes.lanes.items takes.touched takes.mid.holders new.lanes.holders horizon takes_extension.extends knows.going.by_last come_past
          (not_before last horizon may.later) then_going.by_last (passes_of_none taken knows.numbered key_for new.placing.certificate then_going.none) count
          (runs_then taken key_for lanes extension.events takes.mid.lanes.items new.lanes.lanes.items takes.touched takes.are_touched notes.lanes ends)
          takes.are_touched (stood_by last old.placing.certificate extension.lanes knows.going.by_last) (knew taken key_for last old new extension knows may.fits come_past None takes_extension with_new adds holders takes) notes.holders
          number was.0 was.1))

      summed_now : with_new.owed ≡ old.lanes.owed → IsSummed new.lanes
      summed_now owed =
          let many = (begins taken key_for last old new extension knows may.fits come_past None takes_extension with_new adds holders takes).1 in
          let more = length-append old.placing.certificate.lanes (map empty_lane extension.lanes) in
          let few : length with_new.lanes.items ≤ 65536 = omega (arith, many, more, length-map extension.lanes empty_lane, may.fits.room.few_lanes) in
          turn_summed taken key_for old.lanes with_new takes.mid new.lanes extension.lanes takes.walks.shown takes.touched few knows.summed adds owed takes.walks.chain (takes.notes refl).lanes (takes.notes refl).owed

    by_reports : (first : Option Breach) → OrElse first (TakesWithNew taken key_for last old extension new) None
        → AreWalked taken key_for new.placing.certificate.lanes new.lanes.lanes.items × AreNoted taken key_for (Some horizon) new.placing.certificate.lanes new.lanes.holders × IsSummed new.lanes
    by_reports (Some b) reports = absurd (none-some b reports)
    by_reports None (with_new, adds, owed, holders, takes) = (walked_now with_new adds holders takes, noted_now with_new adds holders takes, summed_now with_new adds holders takes owed)

    -- what is known goes on
    pub known_whole : Keeps taken new.placing → vec_len new.lanes.lanes ≡ length new.placing.certificate.lanes → Knows taken key_for (Some horizon) new
    known_whole keeps count =
        let lanes = by_reports takes_extension.of_placement takes_extension.reports in
        record { numbered = knows.numbered; going = then_going; before = taken; stays = stays_same taken; keeps = keeps; lanes = count; walked = lanes.0; noted = lanes.1; summed = lanes.2 }
