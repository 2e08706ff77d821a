-- The moves of the code as steps of the server.
use Rattle.std.specs.Prelude.{◌≡◌, Bool, false, List, map}
use Rattle.std.specs.List.{AllByRecursion}
use Rattle.audit_model.specs.declared.sighting.SightId.{SightId}
use Rattle.audit_model.specs.declared.policy.Policy.{Policy}
use Rattle.audit_rules.specs.Keys.{KeyFor}
use Rattle.audit_segments.specs.Cut.{Cut}
use Rattle.audit_segments.specs.Segment.{View, IsSegment}
use Rattle.audit_server.specs.Step.{Step, In, Act, Out}
use Rattle.audit_machine.specs.declared.moves.Action.{Action}
use Rattle.audit_machine.specs.declared.moves.Action.TheVariants as actions

abbrev pub step_of : Action → Step
step_of (actions.Arrive sight moment) = record { moment = moment; move = In sight }
step_of (actions.Act pair arrival departure moment) = record { moment = moment; move = Act pair arrival departure }
step_of (actions.Leave sight moment) = record { moment = moment; move = Out sight }

abbrev pub steps_of : List Action → List Step
steps_of actions = map step_of actions

-- the move names no excluded sighting
abbrev pub NamesIncluded : (SightId → Bool) → Action → Type 0
NamesIncluded excluded (actions.Arrive sight moment) = excluded sight ≡ false
NamesIncluded excluded (actions.Act pair arrival departure moment) = (excluded arrival ≡ false) × (excluded departure ≡ false)
NamesIncluded excluded (actions.Leave sight moment) = excluded sight ≡ false

abbrev pub AllNameIncluded : (SightId → Bool) → List Action → Type 0
AllNameIncluded excluded actions = AllByRecursion (NamesIncluded excluded) actions

-- The moves are a segment from the first cut to the second, whichever sightings are excluded that
-- they don't name.
abbrev pub LeadsTo : Policy → KeyFor → View → (old new : (SightId → Bool) → Cut) → List Action → Type 0
LeadsTo policy key_for view old new actions = (excluded : SightId → Bool) → AllNameIncluded excluded actions → IsSegment policy key_for view (old excluded) (steps_of actions) (new excluded)
