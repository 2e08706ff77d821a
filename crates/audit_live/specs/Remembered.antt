-- The state of a lane is that of its walk.
use Rattle.std.specs.Prelude.{◌≡◌, false, Some, None, ℕ, List, option_map}
use Rattle.audit_lane.specs.declared.noted.Arrival.{Arrival}
use Rattle.audit_lane.specs.Content.{Happening}
use Rattle.audit_lane.specs.Faults.{IsRight}
use Rattle.audit_lane.specs.After.{after}
use Rattle.audit_lane.specs.Kept.{Kept, place_at}
use Rattle.audit_lane.specs.Seen.{SameKept, terms_by}
use Rattle.audit_lane.specs.Walk.{Shows, key_at}
use Rattle.audit_model.specs.declared.pair.Pair.{Pair}
use Rattle.audit_model.specs.declared.rule.Rule.{Rule}
use Rattle.audit_model.specs.declared.sighting.SightId.{SightId}
use Rattle.audit_model.specs.declared.verdict.Breach.{Breach}
use Rattle.audit_prefix.specs.Walk.{Breaks, GoesOn, Memory, lane_breach, remembered, sight_named}
use Rattle.audit_rules.specs.declared.credentials.CredRow.{CredRow}
use Rattle.audit_rules.specs.Keys.{KeyFor}
use Rattle.audit_verdict.specs.Run.{IsKnown, move_of, placed_at}
use Rattle.audit_sightings.specs.Intake.{Taken, sighting_at}
use Rattle.audit_whole.specs.CaptureRun.{rules_for}
use Rattle.audit_live.specs.Steps.{AreRowsOf}

-- The state of a client's lane, except what it owes: each arrival has the first user, and one that
-- didn't come wasn't acted on.
pub record Remembers (pair : Pair) (kept : Kept) (m : Memory) : Type 0 where
  pub client : kept.standing.client ≡ pair.client
  pub listen : kept.standing.listen ≡ pair.listen
  pub came : (s : SightId) → option_map (λ a. a.moment) (kept.came s) ≡ m.came s
  pub first_user : (s : SightId) (a : Arrival) → kept.came s ≡ Some a → a.user ≡ Some 0
  pub taken : (s : SightId) (a : Arrival) → kept.came s ≡ Some a → a.acted ≡ m.taken s
  pub fresh : (s : SightId) → kept.came s ≡ None → m.taken s ≡ false
  pub since : (t : SightId) → option_map (λ d. d.arrived) (kept.gave t) ≡ m.since t
  pub allocation : kept.standing.allocation ≡ m.allocation
  pub runs : kept.standing.tenancy ≡ m.runs
  pub ended : kept.ended ≡ m.ended

-- the walk goes on with an event that is right, and the states stay equal
abbrev pub GoesOnAsWalk : Taken → KeyFor → Pair → ℕ → ℕ → Happening → List CredRow → Kept → Kept → Memory → Type 0
GoesOnAsWalk taken key_for pair number place event rows old new m =
    AreRowsOf key_for event rows → IsKnown (sighting_at taken) event → Remembers pair old m → IsRight (terms_by number taken.policy rows) old event
    → SameKept new (after (terms_by number taken.policy rows) place old event)
    → GoesOn (rules_for taken key_for) m (key_at event).moment (move_of pair event)
    × Remembers pair new (remembered (rules_for taken key_for) m (placed_at (terms_by number taken.policy rows) pair place event))

-- the breach of an event is of the first rule that the walk breaks by it
abbrev pub StopsAsWalk : Taken → KeyFor → Pair → ℕ → ℕ → Happening → List CredRow → Kept → Memory → Breach → Type 0
StopsAsWalk taken key_for pair number place event rows old m breach =
    AreRowsOf key_for event rows → IsKnown (sighting_at taken) event → Remembers pair old m → Shows (terms_by number taken.policy rows) place old event breach
    → (rule : Rule) × Breaks taken key_for m (key_at event).moment (move_of pair event) rule
    × (breach ≡ lane_breach taken key_for (place_at (terms_by number taken.policy rows) (key_at event) place) (sight_named taken key_for (move_of pair event)) rule)
