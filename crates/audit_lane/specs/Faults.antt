-- The rule that an event of a lane breaks, in the state before it.
use Rattle.std.specs.Prelude.{ℕ, ◌≡◌, ◌⊎◌, ◌||◌, Bool, Option, Some, None, is_some, nat_lt, if◌then◌else◌}
use Rattle.audit_model.specs.declared.rule.Rule.{Rule}
use Rattle.audit_model.specs.declared.rule.Rule.TheVariants.{ActBeforeArrival, ActedTwice, LeftWithoutAct, HeldTooLong}
use Rattle.audit_model.specs.declared.sighting.Sighting.{Sighting}
use Rattle.audit_model.specs.Window.{later}
use Rattle.audit_rules.specs.Answer.{MayAnswer}
use Rattle.audit_rules.specs.FirstRule.{FirstRule}
use Rattle.audit_rules.specs.Said.{change_in}
use Rattle.audit_rules.specs.Situation.{Situation}
use Rattle.audit_rules.specs.Values.{AreBytes}
use Rattle.audit_lane.specs.declared.noted.Arrival.{Arrival}
use Rattle.audit_lane.specs.declared.noted.Departure.{Departure}
use Rattle.audit_lane.specs.Content.{Happening, Came, Acted, Went}
use Rattle.audit_lane.specs.Kept.{Terms, Kept, situation_in}

-- the moment is more than hold after the arrival's
abbrev pub is_past : ℕ → ℕ → ℕ → Bool
is_past hold arrived moment = nat_lt (later arrived hold) moment

-- S9, S10 and S12 for an act: by this arrival, if it came, with a departure that was sent so
-- before, if it was
abbrev pub act_fault : ℕ → Option Arrival → Option Departure → ℕ → Option Rule
act_fault hold None sent moment = Some ActBeforeArrival
act_fault hold (Some arrival) sent moment =
    if arrival.acted || is_some sent then Some ActedTwice
    else (if is_past hold arrival.moment moment then Some HeldTooLong else None)

-- S11 and S12 for a departure that leaves, sent so, if it was
abbrev pub out_fault : ℕ → Option Departure → ℕ → Option Rule
out_fault hold None moment = Some LeftWithoutAct
out_fault hold (Some sent) moment = if is_past hold sent.arrived moment then Some HeldTooLong else None

abbrev pub fault_at : Terms → Kept → Sighting → Sighting → ℕ → Option Rule
fault_at terms kept arrives leaves moment = act_fault terms.policy.hold (kept.came arrives.id) (kept.gave leaves.id) moment

-- the first rule of the table, R1 to R21, that an act of captured datagrams breaks: their payloads
-- are bytes
abbrev pub BreaksFirst : Situation → Rule → Type 0
BreaksFirst x rule = AreBytes x.arrives.payload × AreBytes x.leaves.payload × FirstRule x rule

-- the event breaks this rule: for an act, the rules of the lane come before those of the table
abbrev pub BreaksRule : Terms → Kept → Happening → Rule → Type 0
BreaksRule terms kept (Came sighting user key) rule = ⊥
BreaksRule terms kept (Acted arrives leaves key) rule =
    (fault_at terms kept arrives leaves key.moment ≡ Some rule)
    ⊎ ((fault_at terms kept arrives leaves key.moment ≡ None) × BreaksFirst (situation_in terms kept arrives leaves key.moment) rule)
BreaksRule terms kept (Went sighting key) rule = out_fault terms.policy.hold (kept.gave sighting.id) key.moment ≡ Some rule

-- the event breaks none
abbrev pub IsRight : Terms → Kept → Happening → Type 0
IsRight terms kept (Came sighting user key) = Unit {0}
IsRight terms kept (Acted arrives leaves key) =
    (fault_at terms kept arrives leaves key.moment ≡ None)
    × MayAnswer (situation_in terms kept arrives leaves key.moment) (change_in (situation_in terms kept arrives leaves key.moment))
IsRight terms kept (Went sighting key) = out_fault terms.policy.hold (kept.gave sighting.id) key.moment ≡ None
