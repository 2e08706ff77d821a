-- The rule of the breach that an event shows is the first one that it breaks in the lane's walk.
use Rattle.std.proofs.Common.{◌≡◌, ◌<◌, inl, inr, ℕ, Bool, true, false, cond, ◌||◌, List, Option, Some, None, refl, sym, ap, ◌∙◌, subst}
use Rattle.std.specs.Prelude.{is_some, option_map}
use Rattle.std.specs.Bool.{MatchBool}
use Rattle.std.proofs.lemmas.Bool.{ltb-true}
use Rattle.std.proofs.lemmas.Option.{none-some, same_Some}
use Rattle.audit_lane.specs.declared.noted.Arrival.{Arrival}
use Rattle.audit_lane.specs.declared.noted.Departure.{Departure}
use Rattle.audit_lane.specs.Content.{Happening, Came, Acted, Went}
use Rattle.audit_lane.specs.Faults.{act_fault, is_past, out_fault}
use Rattle.audit_lane.specs.Kept.{Kept, Terms, situation_in, user_by}
use Rattle.audit_lane.specs.Seen.{terms_by}
use Rattle.audit_model.specs.declared.event.Key.{Key}
use Rattle.audit_model.specs.declared.pair.Pair.{Pair}
use Rattle.audit_model.specs.declared.rule.Rule.{Rule}
use Rattle.audit_model.specs.declared.rule.Rule.TheVariants.{ActBeforeArrival, ActedTwice, HeldTooLong, LeftWithoutAct}
use Rattle.audit_model.specs.declared.sighting.Sighting.{Sighting}
use Rattle.audit_model.specs.declared.verdict.Breach.{Breach}
use Rattle.audit_model.specs.Window.{later}
use Rattle.audit_prefix.specs.Walk.{BreaksAnswer, BreaksArrived, BreaksSent, BreaksInTime, Memory}
use Rattle.audit_rules.specs.declared.credentials.CredRow.{CredRow}
use Rattle.audit_rules.specs.FirstRule.{FirstRule}
use Rattle.audit_rules.specs.Keys.{KeyFor, with_keys}
use Rattle.audit_rules.specs.Situation.{Situation}
use Rattle.audit_verdict.specs.Run.{IsKnown}
use Rattle.audit_verdict.proofs.Running.{IsOpen, open_to}
use Rattle.audit_sightings.specs.Intake.{Taken, sighting_at}
use Rattle.audit_live.specs.Remembered.{Remembers, StopsAsWalk}
use Rattle.audit_live.specs.Steps.{AreRowsOf}
use Rattle.audit_live.proofs.FirstByKeys.{first_said}
use Rattle.audit_live.proofs.Remembering.{agrees, request_situation, request_situation_is, came_then, not_since, not_taken}

mapped : {X Y : Type 0} (f : X → Y) (o : Option X) → is_some o ≡ is_some (option_map f o)
mapped f None = refl
mapped f (Some x) = refl

module _ (taken : Taken) (key_for : KeyFor) (moment : ℕ) (Other : Rule → Type 0) (rule : Rule) where
  by_past : (came : ℕ) (past : Bool) → is_past taken.policy.hold came moment ≡ past → cond past (Some HeldTooLong) None ≡ Some rule → (later came taken.policy.hold < moment) × (rule ≡ HeldTooLong)
  by_past came true past is = (ltb-true (later came taken.policy.hold) moment past, sym (same_Some HeldTooLong rule is))
  by_past came false past is = absurd (none-some rule is)

  by_again : (came : ℕ) (again : Bool) → cond again (Some ActedTwice) (cond (is_past taken.policy.hold came moment) (Some HeldTooLong) None) ≡ Some rule
      → MatchBool again (rule ≡ ActedTwice) (BreaksInTime taken key_for came moment Other rule)
  by_again came true is = sym (same_Some ActedTwice rule is)
  by_again came false is = inl (by_past came (is_past taken.policy.hold came moment) refl is)

module _ (taken : Taken) (key_for : KeyFor) (pair : Pair) (number place : ℕ) (rows : List CredRow) (old : Kept) (m : Memory) (known : Remembers pair old m) where
  abbrev terms : Terms
  terms = terms_by number taken.policy rows

  module _ (a l : Sighting) (key : Key) (rule : Rule) where
    abbrev ByAnswer : Rule → Type 0
    ByAnswer = BreaksAnswer taken key_for pair key.moment m.allocation (sighting_at taken a.id) (sighting_at taken l.id)

    abbrev ByWalk : Option ℕ → Bool → Type 0
    ByWalk came again = BreaksArrived taken key_for came again key.moment ByAnswer rule

    -- S9, S10 and S12
    by_lane : (came : Option Arrival) (gave : Option Departure) → old.came a.id ≡ came → old.gave l.id ≡ gave → act_fault taken.policy.hold came gave key.moment ≡ Some rule
        → ByWalk (m.came a.id) (m.taken a.id || is_some (m.since l.id))
    by_lane None gave at sent is =
        subst (λ (o : Option ℕ). ByWalk o (m.taken a.id || is_some (m.since l.id))) (ap (option_map (λ (x : Arrival). x.moment)) (sym at) ∙ known.came a.id) (sym (same_Some ActBeforeArrival rule is))
    by_lane (Some one) gave at sent is =
        let came : Some one.moment ≡ m.came a.id = ap (option_map (λ (x : Arrival). x.moment)) (sym at) ∙ known.came a.id in
        let since : is_some gave ≡ is_some (m.since l.id) = mapped (λ (d : Departure). d.arrived) gave ∙ ap (λ o. is_some (option_map (λ (d : Departure). d.arrived) o)) (sym sent) ∙ ap is_some (known.since l.id) in
        let again : (one.acted || is_some gave) ≡ (m.taken a.id || is_some (m.since l.id)) = ap (λ b. b || is_some gave) (known.taken a.id one at) ∙ ap (λ b. m.taken a.id || b) since in
        subst (λ (o : Option ℕ). ByWalk o (m.taken a.id || is_some (m.since l.id))) came
        (subst (ByWalk (Some one.moment)) again (by_again taken key_for key.moment ByAnswer rule one.moment (one.acted || is_some gave) is))

    -- the first rule of the table
    by_answer : (may_be : IsOpen taken.policy.hold key.moment (old.came a.id) (old.gave l.id)) → AreRowsOf key_for (Acted a l key) rows → IsKnown (sighting_at taken) (Acted a l key)
        → FirstRule (situation_in terms old a l key.moment) rule → ByWalk (m.came a.id) (m.taken a.id || is_some (m.since l.id))
    unfolding request_situation
    by_answer may_be named there first =
        let keys : KeyFor = terms.keys (user_by (old.came a.id)) in
        let x : Situation = request_situation taken key_for pair number place rows old m known a l key may_be keys in
        let moved : FirstRule x rule = subst (λ (y : Situation). FirstRule y rule) (request_situation_is taken key_for pair number place rows old m known a l key may_be) first in
        let by_all : FirstRule (with_keys key_for x) rule = first_said key_for x (agrees taken key_for pair number place rows old m known a l key may_be named.0 named.1 named.2) rule moved in
        let answer : ByAnswer rule =
        subst (λ o. BreaksAnswer taken key_for pair key.moment m.allocation o (sighting_at taken l.id) rule) (sym there.0)
        (subst (λ o. BreaksAnswer taken key_for pair key.moment m.allocation (Some a) o rule) (sym there.1) by_all) in
        let free : (m.taken a.id || is_some (m.since l.id)) ≡ false =
        ap (λ b. b || is_some (m.since l.id)) (not_taken taken key_for pair number place rows old m known a l key may_be) ∙ not_since taken key_for pair number place rows old m known a l key may_be in
        subst (λ (o : Option ℕ). ByWalk o (m.taken a.id || is_some (m.since l.id))) (sym (came_then taken key_for pair number place rows old m known a l key may_be))
        (subst (ByWalk (Some may_be.came)) (sym free) (inr (may_be.in_time, answer)))

  -- S11 and S12
  by_departure : (s : Sighting) (moment : ℕ) (rule : Rule) (gave : Option Departure) → old.gave s.id ≡ gave → out_fault taken.policy.hold gave moment ≡ Some rule → BreaksSent taken key_for (m.since s.id) moment rule
  by_departure s moment rule None sent is =
      subst (λ (o : Option ℕ). BreaksSent taken key_for o moment rule) (ap (option_map (λ (d : Departure). d.arrived)) (sym sent) ∙ known.since s.id) (sym (same_Some LeftWithoutAct rule is))
  by_departure s moment rule (Some one) sent is =
      subst (λ (o : Option ℕ). BreaksSent taken key_for o moment rule) (ap (option_map (λ (d : Departure). d.arrived)) (sym sent) ∙ known.since s.id)
      (by_past taken key_for moment (λ r. ⊥) rule one.arrived (is_past taken.policy.hold one.arrived moment) refl is)

pub stops_on : (taken : Taken) (key_for : KeyFor) (pair : Pair) (number place : ℕ) (event : Happening) (rows : List CredRow) (old : Kept) (m : Memory) (breach : Breach) → StopsAsWalk taken key_for pair number place event rows old m breach
stops_on taken key_for pair number place (Came s user key) rows old m breach named there known shows = absurd shows.breaks
stops_on taken key_for pair number place (Acted a l key) rows old m breach named there known shows = (
  shows.rule,
  elim shows.breaks [
    | inl fault ↦ by_lane taken key_for pair number place rows old m known a l key shows.rule (old.came a.id) (old.gave l.id) refl refl fault
    | inr (none, first) ↦
        by_answer taken key_for pair number place rows old m known a l key shows.rule (open_to taken.policy.hold key.moment (old.came a.id) (old.gave l.id) none) named there first.2
  ],
  shows.is,
)
stops_on taken key_for pair number place (Went s key) rows old m breach named there known shows =
    (shows.rule, by_departure taken key_for pair number place rows old m known s key.moment shows.rule (old.gave s.id) refl shows.breaks, shows.is)
