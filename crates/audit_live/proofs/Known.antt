-- What is known of what is placed, from one turn to the next.
use Rattle.std.proofs.Common.{◌≡◌, ◌+◌, ℕ, false, List, [], ◌++◌, length, min, Option, Some, None, append_assoc, append-nil, refl, sym, ap, ◌∙◌, subst, arith}
use Rattle.std.specs.Prelude.{is_some, slice_get, vec_len}
use Rattle.std.proofs.lemmas.Bool.{true≢false}
use Rattle.std.proofs.lemmas.Option.{none-some}
use Rattle.audit_lane.specs.declared.state.LaneState.{LaneState}
use Rattle.audit_model.specs.declared.certificate.CertLane.{CertLane}
use Rattle.audit_model.specs.declared.extension.Extension.{Extension}
use Rattle.audit_order.specs.Grown.{Fits}
use Rattle.audit_prefix.specs.Advance.{IsInTurn}
use Rattle.audit_prefix.specs.Live.{IsNotLater, MayAdvance}
use Rattle.audit_prefix.specs.Turn.{runs_after}
use Rattle.audit_prefix.specs.Walk.{Memory, nothing_yet}
use Rattle.audit_prefix.proofs.Covering.{remembers}
use Rattle.audit_prefix.proofs.Extending.{only_of}
use Rattle.audit_prefix.proofs.Growth.{go_on, remembered_same}
use Rattle.audit_prefix.proofs.Living.{goes_at_first}
use Rattle.audit_prefix.proofs.Passing.{passes_of_none}
use Rattle.audit_prefix.proofs.NoneLater.{none_later}
use Rattle.audit_order.specs.Kept.{Keeps, Stays}
use Rattle.audit_rules.specs.Keys.{KeyFor}
use Rattle.audit_server.specs.Placed.{Runs}
use Rattle.audit_server.specs.State.{at_first}
use Rattle.audit_server.proofs.Whole.{acts_of_run}
use Rattle.audit_sightings.specs.Intake.{AreNumbered, Taken}
use Rattle.audit_whole.specs.CaptureRun.{rules_for}
use Rattle.audit_whole.specs.Glued.{pair_of_lane}
use Rattle.audit_live.specs.declared.fault.LiveFault.TheVariants as faults
use Rattle.audit_live.specs.declared.front.Front.{Front}
use Rattle.audit_live.specs.declared.lane.LiveLane.{LiveLane}
use Rattle.audit_live.specs.Audit.{Audit}
use Rattle.audit_live.specs.Knows.{Knows, stands_for}
use Rattle.audit_live.specs.Refusals.{IsRefusal, standing_of}
use Rattle.audit_live.specs.Walked.{IsAt, events_of, memory_of}
use Rattle.audit_live.proofs.NewLanes.{lane_has}
use Rattle.audit_live.proofs.Summed.{summed_first}

pub stays_same : (taken : Taken) → Stays taken taken
stays_same taken = record { policy = refl; rows = λ iface. ([], sym (append-nil _)) }

pub stays_on : (one two three : Taken) → Stays one two → Stays two three → Stays one three
stays_on one two three first second = record {
  policy = second.policy ∙ first.policy;
  rows = λ iface.
      let a = first.rows iface in
      let b = second.rows iface in
      (a.0 ++ b.0, b.1 ∙ ap (λ ys. ys ++ b.0) a.1 ∙ append_assoc _ a.0 b.0);
}

pub known_on : (old new : Taken) (key_for : KeyFor) (last : Option ℕ) (front : Front) → AreNumbered new → Stays old new → Knows old key_for last front → Knows new key_for last front
known_on old new key_for last front numbered stays knows = record {
  numbered = numbered;
  going = record { none = none_later old new key_for front.placing.certificate knows.numbered numbered stays knows.going.none; by_last = knows.going.by_last };
  before = knows.before;
  stays = stays_on knows.before old new knows.stays stays;
  keeps = knows.keeps;
  lanes = knows.lanes;
  walked = λ number lane live there live_there.
      subst (λ (m : Memory). IsAt (pair_of_lane lane) number (length lane.events) m (length m.ended) live) (sym (same number lane there)) (knows.walked number lane live there live_there);
  noted = λ number lane there r runs over. knows.noted number lane there r (runs_same number lane there ∙ runs) over;
  summed = knows.summed;
} where
  -- by the sightings to come the lanes remember the same
  same : (number : ℕ) (lane : CertLane) → slice_get front.placing.certificate.lanes number ≡ Some lane → memory_of new key_for number lane ≡ memory_of old key_for number lane
  same number lane there =
      let w = rules_for old key_for in
      let passes = passes_of_none old knows.numbered key_for front.placing.certificate knows.going.none in
      remembered_same w (rules_for new key_for) (go_on old new stays key_for) (events_of number lane) nothing_yet
      (acts_of_run w (pair_of_lane lane) (events_of number lane) at_first (only_of (pair_of_lane lane) number 0 None lane.events)
      (lane_has (Runs w at_first) 0 front.placing.certificate.lanes passes.lanes number number lane (omega arith) there))

  runs_same : (number : ℕ) (lane : CertLane) → slice_get front.placing.certificate.lanes number ≡ Some lane
      → runs_after (rules_for old key_for) None None (events_of number lane) ≡ runs_after (rules_for new key_for) None None (events_of number lane)
  runs_same number lane there =
      sym (remembers (rules_for old key_for) (events_of number lane) nothing_yet).1 ∙ ap (λ (m : Memory). m.runs) (sym (same number lane there)) ∙ (remembers (rules_for new key_for) (events_of number lane) nothing_yet).1

-- what is known where nothing is placed
pub known_first : (taken : Taken) (key_for : KeyFor) (front : Front) → AreNumbered taken → front.placing.certificate.lanes ≡ [] → front.placing.certificate.drops ≡ [] → Keeps taken front.placing → vec_len front.lanes.lanes ≡ 0
    → front.lanes.owed ≡ 0 → Knows taken key_for None front
known_first taken key_for front numbered lanes drops keeps count owed = record {
  numbered = numbered;
  going = goes_at_first key_for (stands_for taken front None) numbered lanes drops refl;
  before = taken;
  stays = stays_same taken;
  keeps = keeps;
  lanes = count ∙ sym (ap length lanes);
  walked = λ number lane live there live_there. absurd (none-some lane (sym (ap (λ (ls : List CertLane). slice_get ls number) lanes) ∙ there));
  noted = λ number lane there. absurd (none-some lane (sym (ap (λ (ls : List CertLane). slice_get ls number) lanes) ∙ there));
  summed = summed_first front.lanes count owed;
}

-- a lane that was stepped, and whose step was counted
pub step_rest : (old mid new : LiveLane) → mid ≡ record old { state = mid.state } → new ≡ record mid { steps = min (mid.steps + 1) 4294967295; owes = new.owes }
    → new ≡ record old { state = new.state; steps = min (old.steps + 1) 4294967295; owes = new.owes }
step_rest old mid new stepped counted =
    let state : new.state ≡ mid.state = ap (λ (l : LiveLane). l.state) counted in
    counted ∙ ap (λ (l : LiveLane). record l { steps = min (l.steps + 1) 4294967295; owes = new.owes }) stepped
    ∙ ap (λ (s : LaneState). record old { state = s; steps = min (old.steps + 1) 4294967295; owes = new.owes }) (sym state)

pub is_none : {A : Type 0} (o : Option A) → is_some o ≡ false → o ≡ None
is_none None is = refl
is_none (Some x) is = absurd (true≢false is)

-- whether an advance may come, by what was checked
module _ (audit : Audit) (horizon : ℕ) (extension : Extension) (none : audit.ended ≡ None) (later : ¬ IsNotLater (standing_of audit) horizon) where
  pub refused_by_lanes : ¬ Fits audit.front.placing.certificate extension → IsRefusal audit horizon extension faults.Lane
  refused_by_lanes not_fit = (none, later, not_fit)

  pub refused_by_moments : Fits audit.front.placing.certificate extension → ¬ IsInTurn audit.last horizon extension → IsRefusal audit horizon extension faults.OutOfTurn
  refused_by_moments fits out = (none, later, fits, out)

  pub may_come : Fits audit.front.placing.certificate extension → IsInTurn audit.last horizon extension → (audit.ended ≡ None) × MayAdvance (standing_of audit) horizon extension
  may_come fits turn = (none, record { later = later; fits = fits; in_turn = turn })
