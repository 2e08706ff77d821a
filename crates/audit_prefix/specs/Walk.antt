-- How a lane is judged by itself, event by event: its state after the events so far, when it goes
-- on, and which rule an event breaks.
use Rattle.std.specs.Prelude.{ℕ, ◌≡◌, ◌≤◌, ◌<◌, ◌⊎◌, Bool, true, false, not, ◌||◌, if◌then◌else◌, List, [], ◌∷◌, ◌++◌, Option, Some, None, is_some, IsSomeAnd}
use Rattle.std.specs.List.{filter}
use Rattle.std.specs.Bool.{MatchBool}
use Rattle.audit_model.specs.declared.event.At.{At}
use Rattle.audit_model.specs.declared.rule.Rule.{Rule}
use Rattle.audit_model.specs.declared.rule.Rule.TheVariants.{ActBeforeArrival, ActedTwice, LeftWithoutAct, HeldTooLong, ActWithoutDeparture}
use Rattle.audit_model.specs.declared.sighting.SightId.{SightId}
use Rattle.audit_model.specs.declared.sighting.Sighting.{Sighting}
use Rattle.audit_model.specs.declared.verdict.Breach.{Breach}
use Rattle.audit_model.specs.declared.verdict.Tenancy.{Tenancy}
use Rattle.audit_model.specs.Window.{later}
use Rattle.audit_rules.specs.Keys.{KeyFor}
use Rattle.audit_sightings.specs.Intake.{Taken, sighting_at}
use Rattle.audit_rules.specs.Allocation.{Allocation}
use Rattle.audit_rules.specs.FirstRule.{FirstRule}
use Rattle.audit_rules.specs.Values.{AreBytes}
use Rattle.audit_server.specs.Rules.{Rules}
use Rattle.audit_model.specs.declared.pair.Pair.{Pair}
use Rattle.audit_server.specs.State.{acted, put}
use Rattle.audit_model.specs.Sames.{same_sight}
use Rattle.audit_server.specs.Step.{Move, In, Act, Out}
use Rattle.audit_server.specs.Placed.{Placed}
use Rattle.std.specs.Prelude.{option_to_list}
use Rattle.audit_server.specs.Tenancies.{running, ended}
use Rattle.audit_server.specs.Captured.{situation_at}
use Rattle.audit_whole.specs.CaptureRun.{rules_for}

-- an act, its arrival, and the departure that it sent
pub record Owing : Type 0 where
  pub at : At
  pub sight : SightId
  pub gives : SightId

-- The state of a lane: when each arrival first came; which of them were acted on; for each
-- departure that an act sent, when the act's arrival came; the acts whose departures haven't left,
-- in order; the client's allocation and its tenancy; and the ended tenancies.
pub record Memory : Type 0 where
  pub came : SightId → Option ℕ
  pub taken : SightId → Bool
  pub since : SightId → Option ℕ
  pub owing : List Owing
  pub allocation : Option Allocation
  pub runs : Option Tenancy
  pub ended : List Tenancy

abbrev pub nothing_yet : Memory
nothing_yet = record { came = λ _. None; taken = λ _. false; since = λ _. None; owing = []; allocation = None; runs = None; ended = [] }

abbrev pub came_after : Memory → ℕ → Move → SightId → Option ℕ
came_after m moment (In s) = if is_some (m.came s) then m.came else put same_sight m.came s (Some moment)
came_after m moment (Act c s t) = m.came
came_after m moment (Out t) = m.came

abbrev pub taken_after : Memory → Move → SightId → Bool
taken_after m (In s) = m.taken
taken_after m (Act c s t) = put same_sight m.taken s true
taken_after m (Out t) = m.taken

abbrev pub since_after : Memory → Move → SightId → Option ℕ
since_after m (In s) = m.since
since_after m (Act c s t) = put same_sight m.since t (m.came s)
since_after m (Out t) = m.since

abbrev pub owing_after : Memory → At → Move → List Owing
owing_after m at (In s) = m.owing
owing_after m at (Act c s t) = m.owing ++ record { at = at; sight = s; gives = t } ∷ []
owing_after m at (Out t) = filter (λ (o : Owing). not (same_sight t o.gives)) m.owing

-- the state after one more event
abbrev pub remembered : Rules → Memory → Placed → Memory
remembered w m e = record {
  came = came_after m e.at.key.moment e.move;
  taken = taken_after m e.move;
  since = since_after m e.move;
  owing = owing_after m e.at e.move;
  allocation = acted w e.at.key.moment e.move m.allocation;
  runs = running w e.at e.move m.allocation m.runs;
  ended = m.ended ++ option_to_list (ended w e.at e.move m.allocation m.runs);
}

abbrev pub remembered_all : Rules → Memory → List Placed → Memory
remembered_all w m [] = m
remembered_all w m (e ∷ es) = remembered_all w (remembered w m e) es

-- what arrived may be acted on now, and what was sent for it may leave now
abbrev pub IsInTime : ℕ → Option ℕ → ℕ → Type 0
IsInTime hold came moment = IsSomeAnd came (λ m. moment ≤ later m hold)

-- the event may come
abbrev pub GoesOn : Rules → Memory → ℕ → Move → Type 0
GoesOn w m moment (In s) = Unit {0}
GoesOn w m moment (Act c s t) = IsInTime w.hold (m.came s) moment × (m.taken s ≡ false) × (is_some (m.since t) ≡ false) × w.MayAnswer c s t moment m.allocation
GoesOn w m moment (Out t) = IsInTime w.hold (m.since t) moment

abbrev pub AllGoOn : Rules → Memory → List Placed → Type 0
AllGoOn w m [] = Unit {0}
AllGoOn w m (e ∷ es) = GoesOn w m e.at.key.moment e.move × AllGoOn w (remembered w m e) es

module _ (taken : Taken) (key_for : KeyFor) where
  abbrev pub rules : Rules
  rules = rules_for taken key_for

  -- the first rule of the act's case that it breaks
  abbrev pub BreaksAnswer : Pair → ℕ → Option Allocation → Option Sighting → Option Sighting → Rule → Type 0
  BreaksAnswer c moment x None leaves rule = ⊥
  BreaksAnswer c moment x (Some arrives) None rule = ⊥
  BreaksAnswer c moment x (Some arrives) (Some leaves) rule = FirstRule (situation_at taken.policy key_for c moment x arrives leaves) rule

  -- it is held too long, or it breaks the first of other rules
  abbrev pub BreaksInTime : ℕ → ℕ → (Rule → Type 0) → Rule → Type 0
  BreaksInTime came moment Other rule = ((later came rules.hold < moment) × (rule ≡ HeldTooLong)) ⊎ ((moment ≤ later came rules.hold) × Other rule)

  abbrev pub BreaksArrived : Option ℕ → Bool → ℕ → (Rule → Type 0) → Rule → Type 0
  BreaksArrived None again moment Other rule = rule ≡ ActBeforeArrival
  BreaksArrived (Some came) again moment Other rule = MatchBool again (rule ≡ ActedTwice) (BreaksInTime came moment Other rule)

  abbrev pub BreaksSent : Option ℕ → ℕ → Rule → Type 0
  BreaksSent None moment rule = rule ≡ LeftWithoutAct
  BreaksSent (Some came) moment rule = (later came rules.hold < moment) × (rule ≡ HeldTooLong)

  -- the first rule that the event breaks
  abbrev pub Breaks : Memory → ℕ → Move → Rule → Type 0
  Breaks m moment (In s) rule = ⊥
  Breaks m moment (Act c s t) rule = BreaksArrived (m.came s) (m.taken s || is_some (m.since t)) moment (BreaksAnswer c moment m.allocation (sighting_at taken s) (sighting_at taken t)) rule
  Breaks m moment (Out t) rule = BreaksSent (m.since t) moment rule

  abbrev pub sight_named : Move → SightId
  sight_named (In s) = s
  sight_named (Act c s t) = s
  sight_named (Out t) = t

  abbrev pub lane_breach : At → SightId → Rule → Breach
  lane_breach at sight rule = record { at = at; sight = sight; rule = rule; phase = 2 }

  -- the outcome of the walk: none, or the breach of the first event that breaks a rule
  abbrev pub Walks : Memory → List Placed → Option Breach → Type 0
  Walks m [] found = found ≡ None
  Walks m (e ∷ es) found =
      ((rule : Rule) × Breaks m e.at.key.moment e.move rule × (found ≡ Some (lane_breach e.at (sight_named e.move) rule)))
      ⊎ (GoesOn rules m e.at.key.moment e.move × Walks (remembered rules m e) es found)

  -- at the end, the first act whose departure hasn't left is a breach
  abbrev pub end_of : List Owing → Option Breach
  end_of [] = None
  end_of (o ∷ os) = Some (lane_breach o.at o.sight ActWithoutDeparture)

-- the payloads that were captured are bytes
abbrev pub HaveBytes : Taken → Type 0
HaveBytes taken = (sight : SightId) (s : Sighting) → sighting_at taken sight ≡ Some s → AreBytes s.payload
