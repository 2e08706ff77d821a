-- The notes of the lanes that hold addresses are right after a turn.
use Rattle.std.proofs.Common.{◌≡◌, ◌≤◌, ◌<◌, ◌++◌, ◌⊎◌, inl, inr, ℕ, true, false, List, length, map, Option, Some, None, refl, sym, ap, ◌∙◌, subst, arith}
use Rattle.std.specs.Prelude.{Contains, IfSome, slice_get}
use Rattle.std.specs.List.{AllByRecursion}
use Rattle.std.proofs.lemmas.Bool.{le-ltb, lt-ltb}
use Rattle.std.proofs.lemmas.Option.{option_and_then_some, slice_get_within}
use Rattle.audit_model.specs.declared.certificate.Certificate.{Certificate}
use Rattle.audit_model.specs.declared.certificate.CertLane.{CertLane}
use Rattle.audit_model.specs.declared.event.Event.{Event}
use Rattle.audit_model.specs.declared.extension.Extension.{Extension}
use Rattle.audit_model.specs.declared.verdict.Breach.{Breach}
use Rattle.audit_model.specs.declared.verdict.Tenancy.{Tenancy}
use Rattle.audit_model.specs.Clash.{ShowsClash}
use Rattle.audit_order.specs.Grown.{Extends, empty_lane}
use Rattle.audit_prefix.specs.Advance.{OfMoments, StandsBy, StandsByLast}
use Rattle.audit_prefix.specs.Prefix.{PassesSoFar}
use Rattle.audit_prefix.specs.Turn.{IsFollowed, KnowsHolders, NotesHolders, Turn, has_after, runs_after, turns_from, turns_of, whole}
use Rattle.audit_prefix.proofs.Continuing.{open_of, sits_cut, some_open, wholes}
use Rattle.audit_prefix.proofs.Extending.{lanes_by, new_lanes_are, turns_come}
use Rattle.audit_prefix.proofs.Holders.{each_turn, known_after, of_wholes, in_all as in_turns, in_lane as runs_in_list}
use Rattle.audit_prefix.proofs.Later.{over_before}
use Rattle.audit_rules.specs.Keys.{KeyFor}
use Rattle.audit_server.specs.Placed.{Placed}
use Rattle.audit_server.specs.Rules.{Rules}
use Rattle.audit_server.specs.Whole.{all_tenancies}
use Rattle.audit_server.proofs.Lawful.{lawful}
use Rattle.audit_sightings.specs.Intake.{Taken, sighting_at}
use Rattle.audit_whole.specs.CaptureRun.{rules_for}
use Rattle.audit_whole.specs.Glued.{lanes_from}
use Rattle.audit_whole.proofs.Conforming.{contained_all}
use Rattle.audit_live.specs.declared.holders.Holders.{Holders}
use Rattle.audit_live.specs.declared.lane.LiveLane.{LiveLane}
use Rattle.audit_live.specs.CheckedTenancies.{AreTouched, is_past_last}
use Rattle.audit_live.specs.Chain.{Chain}
use Rattle.audit_live.specs.Holding.{holder_of, runs_in, running_at}
use Rattle.audit_live.specs.Walked.{events_of}
use Rattle.audit_live.proofs.CheckedEnough.{ByLast, not_past}
use Rattle.audit_live.proofs.HoldersNoted.{IsLater, Noting, born_noted, kept_noted}
use Rattle.audit_live.proofs.LaneTurns.{born_by, born_in_lane, has_events, lane_of_turn, no_more, turn_at, turn_there, whole_runs}
use Rattle.audit_live.proofs.Lists.{there_is}
use Rattle.audit_live.proofs.NewLanes.{all_turns}
use Rattle.audit_live.proofs.Outcomes.{turn_of}

past_false : (last : Option ℕ) (moment : ℕ) → IfSome last (λ horizon. moment ≤ horizon) × ((last ≡ None) → ⊥) → is_past_last last moment ≡ false
past_false None moment h = absurd (h.1 refl)
past_false (Some horizon) moment h = le-ltb horizon moment h.0

module _ (taken : Taken) (key_for : KeyFor) (last : Option ℕ) (lanes : List CertLane) (events : List (ℕ × Event)) (lives : List LiveLane) (touched : List ℕ) (old new : Holders) (count : length lives ≡ length lanes)
    (runs_are : (number : ℕ) (lane : CertLane) → slice_get lanes number ≡ Some lane → running_at lives number ≡ runs_after (rules_for taken key_for) None None (whole (turn_of events number lane)))
    (are_touched : AreTouched events touched) (before : (number : ℕ) (lane : CertLane) → slice_get lanes number ≡ Some lane → AllByRecursion (ByLast last) (events_of number lane)) where
  abbrev w : Rules
  w = rules_for taken key_for

  abbrev turns : List Turn
  turns = turns_from 0 lanes events

  -- whose tenancy runs
  lane_running : (number : ℕ) (t : Tenancy) → running_at lives number ≡ Some t → (lane : CertLane) × (slice_get lanes number ≡ Some lane) × (runs_after w None None (whole (turn_of events number lane)) ≡ Some t)
  lane_running number t runs =
      let within : number < length lanes = option_and_then_some runs_in (slice_get lives number) t runs (λ live there is. let inside = slice_get_within lives number live there in omega (arith, inside, count)) in
      let lane = there_is lanes number within in
      (lane.0, lane.1, sym (runs_are number lane.0 lane.1) ∙ runs)

  lane_is : (number : ℕ) (t : Tenancy) → running_at lives number ≡ Some t → t.born.lane ≡ number
  lane_is number t runs = let lane = lane_running number t runs in born_in_lane w number (whole (turn_of events number lane.0)) t (lane_of_turn events number lane.0) lane.2

  followed : (t : Tenancy) → IsLater lives t → IsFollowed w turns t
  followed t later =
      let lane = lane_running later.number later.next later.runs in
      record {
        turn = turn_of events later.number lane.0;
        there = turn_there events lanes later.number lane.0 lane.1;
        next = later.next;
        runs = lane.2;
        same_address = later.same_address;
        other_lane = later.other_lane;
        before = later.before;
      }

  -- one that is born in the turn is of a lane with events
  has_born : (number : ℕ) (lane : CertLane) → slice_get lanes number ≡ Some lane → (t : Tenancy) → runs_after w None None (whole (turn_of events number lane)) ≡ Some t → is_past_last last t.born.key.moment ≡ true → Contains touched number
  has_born number lane there t runs past = elim (has_events events number events) [
    | inl has ↦ (are_touched number).1 has
    | inr none ↦
        let ran = ap (runs_after w None None) (sym (whole_runs w (turn_of events number lane) (no_more events number lane none))) ∙ runs in
        absurd (let e : true ≡ false = sym past ∙ past_false last t.born.key.moment (not_past taken key_for last (events_of number lane) t (before number lane there) ran) in cc)
  ]

  module _ (chain : Chain (Noting lives last) old touched new) where
    born_then : (number : ℕ) (lane : CertLane) → slice_get lanes number ≡ Some lane → (t : Tenancy) → runs_after w None None (whole (turn_of events number lane)) ≡ Some t → is_past_last last t.born.key.moment ≡ true
        → (holder_of new t.relayed ≡ Some t.born.lane) ⊎ IsFollowed w turns t
    born_then number lane there t runs past =
        let at : running_at lives number ≡ Some t = runs_are number lane there ∙ runs in
        elim (born_noted lives last lane_is touched old new chain number t (has_born number lane there t runs past) at past) [
          | inl noted ↦ inl (noted ∙ ap Some (sym (lane_is number t at)))
          | inr later ↦ inr (followed t later)
        ]

    notes_holders : (horizon : ℕ) → last ≡ Some horizon → NotesHolders w horizon turns (holder_of old) (holder_of new)
    notes_holders horizon is = record {
      born = λ turn r c runs past.
          let at = turn_at events lanes turn c in
          born_then at.0 at.1 at.2 r (subst (λ (t : Turn). runs_after w None None (whole t) ≡ Some r) at.3 runs) (ap (λ o. is_past_last o r.born.key.moment) is ∙ lt-ltb horizon r.born.key.moment past);
      kept = λ turn r c runs by_then.
          let at = turn_at events lanes turn c in
          let run = subst (λ (t : Turn). runs_after w None None (whole t) ≡ Some r) at.3 runs in
          elim (kept_noted lives last lane_is touched old new chain at.0 r (runs_are at.0 at.1 at.2 ∙ run) (ap (λ o. is_past_last o r.born.key.moment) is ∙ le-ltb horizon r.born.key.moment by_then)) [
            | inl same ↦ inl same
            | inr later ↦ inr (followed r later)
          ];
    }

    module _ (horizon : ℕ) (by_then : AllByRecursion (AllByRecursion (λ (e : Placed). e.at.key.moment ≤ horizon)) (wholes turns)) (none : (b : Breach) → ¬ ShowsClash (all_tenancies w (wholes turns)) b) where
      -- at the first horizon each was born in the turn
      known_first : last ≡ None → (number : ℕ) (lane : CertLane) → slice_get lanes number ≡ Some lane → KnowsHolders w horizon (holder_of new) (whole (turn_of events number lane))
      known_first is number lane there r runs over = elim (born_then number lane there r runs (ap (λ o. is_past_last o r.born.key.moment) is)) [
        | inl noted ↦ noted
        | inr f ↦
            let open_all = open_of w.grace number (has_after w None (whole (turn_of events number lane))) (runs_after w None None (whole (turn_of events number lane)))
            (sits_cut w number (whole (turn_of events number lane)) None None (lane_of_turn events number lane) tt) in
            let open' = some_open (runs_after w None None (whole (turn_of events number lane))) r open_all runs in
            let ended : r.last < f.next.born.key.moment = over_before (all_tenancies w (wholes turns)) r f.next none
            (in_turns w turns (turn_of events number lane) r (turn_there events lanes number lane there) (runs_in_list w (whole (turn_of events number lane)) r runs))
            (in_turns w turns f.turn f.next f.there (runs_in_list w (whole f.turn) f.next f.runs)) f.same_address f.other_lane f.before open' in
            let born = born_by w horizon (whole f.turn) f.next (contained_all (λ (t : Turn). AllByRecursion (λ (e : Placed). e.at.key.moment ≤ horizon) (whole t)) turns f.turn (of_wholes (λ (e : Placed). e.at.key.moment ≤ horizon) turns by_then) f.there) f.runs in
            absurd (omega (arith, ended, born, over))
      ]

-- with all that is known of the certificate then
module _ (taken : Taken) (key_for : KeyFor) (last : Option ℕ) (old : Certificate) (extension : Extension) (new : Certificate) (lives : List LiveLane) (touched : List ℕ) (was is : Holders) (horizon : ℕ)
    (extends : Extends old extension new) (stands : StandsByLast last old) (past : OfMoments (λ moment. IfSome last (λ before. before < moment)) extension) (on : IfSome last (λ before. before ≤ horizon))
    (stands_now : StandsBy horizon new) (passes : PassesSoFar taken (rules_for taken key_for) new) where
  abbrev lanes_then : List CertLane
  lanes_then = old.lanes ++ map empty_lane extension.lanes

  module _ (count : length lives ≡ length lanes_then)
      (runs_are : (number : ℕ) (lane : CertLane) → slice_get lanes_then number ≡ Some lane → running_at lives number ≡ runs_after (rules_for taken key_for) None None (whole (turn_of extension.events number lane)))
      (are_touched : AreTouched extension.events touched) (before : (number : ℕ) (lane : CertLane) → slice_get lanes_then number ≡ Some lane → AllByRecursion (ByLast last) (events_of number lane))
      (knew : (number : ℕ) (lane : CertLane) → slice_get lanes_then number ≡ Some lane → IfSome last (λ h. KnowsHolders (rules_for taken key_for) h (holder_of was) (events_of number lane)))
      (chain : Chain (Noting lives last) was touched is) where
    same : lanes_from 0 new.lanes ≡ wholes (turns_of old extension)
    same = new_lanes_are old extension new extends

    by_then : AllByRecursion (AllByRecursion (λ (e : Placed). e.at.key.moment ≤ horizon)) (wholes (turns_of old extension))
    by_then = subst (λ (ls : List (List Placed)). AllByRecursion (AllByRecursion (λ (e : Placed). e.at.key.moment ≤ horizon)) ls) same (lanes_by (λ (e : Placed). e.at.key.moment ≤ horizon) new stands_now).0

    no_clash : (b : Breach) → ¬ ShowsClash (all_tenancies (rules_for taken key_for) (wholes (turns_of old extension))) b
    no_clash = subst (λ (ls : List (List Placed)). (b : Breach) → ¬ ShowsClash (all_tenancies (rules_for taken key_for) ls) b) same passes.tenancies

    by_last : (o : Option ℕ) → last ≡ o → (number : ℕ) (lane : CertLane) → slice_get lanes_then number ≡ Some lane → KnowsHolders (rules_for taken key_for) horizon (holder_of is) (whole (turn_of extension.events number lane))
    by_last None none number lane there =
        known_first taken key_for last lanes_then extension.events lives touched was is count runs_are are_touched before chain horizon by_then no_clash none number lane there
    by_last (Some before_it) at number lane there =
        let w = rules_for taken key_for in
        let stood = subst (λ (o : Option ℕ). StandsByLast o old) at stands in
        let come = subst (λ (o : Option ℕ). OfMoments (λ moment. IfSome o (λ before. before < moment)) extension) at past in
        known_after w (lawful taken.policy key_for (sighting_at taken)) before_it horizon (subst (λ (o : Option ℕ). IfSome o (λ before. before ≤ horizon)) at on) (turns_of old extension) (holder_of was) (holder_of is)
        (each_turn w before_it 0 (turns_of old extension) (turns_come old extension new extends w before_it stood come passes.lanes))
        (of_wholes (λ (e : Placed). e.at.key.moment ≤ horizon) (turns_of old extension) by_then) no_clash
        (all_turns extension.events (λ (turn : Turn). KnowsHolders w before_it (holder_of was) turn.before) lanes_then
        (λ n one one_there. subst (λ (o : Option ℕ). IfSome o (λ h. KnowsHolders w h (holder_of was) (events_of n one))) at (knew n one one_there)))
        (notes_holders taken key_for last lanes_then extension.events lives touched was is count runs_are are_touched before chain before_it at)
        (turn_of extension.events number lane) (turn_there extension.events lanes_then number lane there)

    -- the notes are right at the new horizon
    pub known_then : (number : ℕ) (lane : CertLane) → slice_get lanes_then number ≡ Some lane → KnowsHolders (rules_for taken key_for) horizon (holder_of is) (whole (turn_of extension.events number lane))
    known_then = by_last last refl
