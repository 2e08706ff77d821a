-- The rules of placement that one entry breaks. Each rule is checked by itself, in the order of
-- their ranks.
use Rattle.std.specs.Prelude.{◌≡◌, ◌⊎◌, Bool, true, false, not, ◌&&◌, ◌||◌, nat_lt, List, [], ◌∷◌, Option, Some, None, is_some, if◌then◌else◌}
use Rattle.std.specs.Ordering.{is_gt}
use Rattle.audit_model.specs.declared.event.At.{At}
use Rattle.audit_model.specs.declared.event.Event.{Event}
use Rattle.audit_model.specs.declared.event.Event.TheVariants.{In, Act, Out}
use Rattle.audit_model.specs.declared.event.Key.{Key}
use Rattle.audit_model.specs.declared.policy.Policy.{Policy}
use Rattle.audit_model.specs.declared.rule.Rule.{Rule}
use Rattle.audit_model.specs.declared.rule.Rule.TheVariants.{PlacedTwice, Stranger, OutOfWindow, LaneOrder, WrongSide, OtherEndpoint}
use Rattle.audit_model.specs.declared.sighting.Side.{Side}
use Rattle.audit_model.specs.declared.sighting.Side.TheVariants.{Arrives, Leaves}
use Rattle.audit_model.specs.declared.sighting.SightId.{SightId}
use Rattle.audit_model.specs.declared.sighting.Sighting.{Sighting}
use Rattle.audit_model.specs.declared.verdict.Breach.{Breach}
use Rattle.audit_model.specs.Breach.{key_cmp}
use Rattle.audit_model.specs.Lanes.{same_pair}
use Rattle.audit_model.specs.Policy.{listens}
use Rattle.audit_sightings.specs.Intake.{Taken, sighting_at}
use Rattle.audit_placement.specs.declared.entry.Entry.{Entry}
use Rattle.audit_model.specs.declared.pair.Pair.{Pair}
use Rattle.audit_placement.specs.FirstPlace.{is_placed}

-- the check of a rule, the sighting that its breach names, and whether it is broken
pub record Check : Type 0 where
  pub rule : Rule
  pub sight : SightId
  pub broken : Bool

abbrev pub check_by : SightId → Rule → Bool → Check
check_by sight rule broken = record { rule = rule; sight = sight; broken = broken }

-- the sighting exists, and the test holds
abbrev pub is_so : Option Sighting → (Sighting → Bool) → Bool
is_so None test = false
is_so (Some sighting) test = test sighting

-- the moment is not in the sighting's window
abbrev pub is_outside : Key → Sighting → Bool
is_outside key sighting = nat_lt key.moment sighting.lo || nat_lt sighting.hi key.moment

-- the key is not greater than that of the event before it
abbrev pub is_late : Option Key → Key → Bool
is_late None key = false
is_late (Some last) key = not (is_gt (key_cmp key last))

abbrev pub differ : Side → Side → Bool
differ Arrives Arrives = false
differ Arrives Leaves = true
differ Leaves Arrives = true
differ Leaves Leaves = false

abbrev pub goes_against : Side → Sighting → Bool
goes_against side sighting = differ sighting.side side

-- the datagram is to or from a listen address, and not between the lane's client and its listen
-- address
abbrev pub is_of_another : Policy → Option Pair → Side → Sighting → Bool
is_of_another policy None side sighting = false
is_of_another policy (Some pair) Arrives sighting = listens policy sighting.to && not (same_pair pair.client pair.listen sighting.from sighting.to)
is_of_another policy (Some pair) Leaves sighting = listens policy sighting.from && not (same_pair pair.client pair.listen sighting.to sighting.from)

-- an arrival or a departure: placed is whether an earlier entry places the same sighting
abbrev pub placing_checks : Taken → Bool → Option Pair → Option Key → Side → SightId → Key → List Check
placing_checks taken placed pair last side sight key =
    let sighting = sighting_at taken sight in
    check_by sight PlacedTwice placed
    ∷ check_by sight Stranger (not (is_some sighting))
    ∷ check_by sight OutOfWindow (is_so sighting (is_outside key))
    ∷ check_by sight LaneOrder (is_late last key)
    ∷ check_by sight WrongSide (is_so sighting (goes_against side))
    ∷ check_by sight OtherEndpoint (is_so sighting (is_of_another taken.policy pair side))
    ∷ []

-- an act: the breach of a stranger names the first of the two that doesn't exist, all others the
-- arrival
abbrev pub act_checks : Taken → Option Key → SightId → SightId → Key → List Check
act_checks taken last arrival departure key =
    check_by (if is_some (sighting_at taken arrival) then departure else arrival) Stranger
    (not (is_some (sighting_at taken arrival)) || not (is_some (sighting_at taken departure)))
    ∷ check_by arrival LaneOrder (is_late last key)
    ∷ check_by arrival WrongSide (is_so (sighting_at taken arrival) (goes_against Arrives) || is_so (sighting_at taken departure) (goes_against Leaves))
    ∷ []

abbrev pub event_checks : Taken → Bool → Option Pair → Option Key → Event → List Check
event_checks taken placed pair last (In sight key) = placing_checks taken placed pair last Arrives sight key
event_checks taken placed pair last (Act arrival departure key) = act_checks taken last arrival departure key
event_checks taken placed pair last (Out sight key) = placing_checks taken placed pair last Leaves sight key

-- the checks of an entry after the earlier ones
abbrev pub checks : Taken → List Entry → Entry → List Check
checks taken earlier entry = event_checks taken (is_placed earlier entry.event) entry.pair entry.last entry.event

abbrev pub breach_at : At → Rule → SightId → Breach
breach_at at rule sight = record { at = at; sight = sight; rule = rule; phase = 1 }

-- the breach is one of a rule that is broken there
abbrev pub IsOneOf : List Check → At → Breach → Type 0
IsOneOf [] at breach = ⊥
IsOneOf (check ∷ checks) at breach = ((check.broken ≡ true) × (breach ≡ breach_at at check.rule check.sight)) ⊎ IsOneOf checks at breach

-- the first rule that is broken, and its sighting
abbrev pub first_broken : List Check → Option (Rule × SightId)
first_broken [] = None
first_broken (check ∷ checks) = if check.broken then Some (check.rule, check.sight) else first_broken checks

-- a broken rule as a breach
abbrev pub breach_of : At → Option (Rule × SightId) → Option Breach
breach_of at None = None
breach_of at (Some found) = Some (breach_at at found.0 found.1)
