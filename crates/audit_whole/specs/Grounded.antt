-- The reasons, in a run, of the datagrams that are relayed, without any table.
use Rattle.std.specs.Prelude.{◌≡◌, ◌⊎◌, List, ◌∷◌, ◌++◌, Some}
use Rattle.audit_model.specs.declared.pair.Pair.{Pair}
use Rattle.audit_model.specs.declared.sighting.SightId.{SightId}
use Rattle.audit_model.specs.declared.sighting.Sighting.{Sighting}
use Rattle.audit_stun.specs.declared.class.Class.TheVariants.{Success, Error}
use Rattle.audit_stun.specs.Message.{IsMessage}
use Rattle.audit_sightings.specs.Intake.{Taken}
use Rattle.audit_rules.specs.declared.path.Path.TheVariants.{Client, Relay}
use Rattle.audit_rules.specs.Keys.{KeyFor}
use Rattle.audit_rules.specs.Situation.{Situation, answered, arrival_path, departure_path}
use Rattle.audit_server.specs.Step.{Step, Out}
use Rattle.audit_whole.specs.Lasting.{situation_of, IsAct}
use Rattle.audit_whole.specs.Relayed.{GroundedUp, GroundedDown}

-- the departure is a success or error response that goes from the listen address to the client
abbrev pub IsAResponse : Situation → Type 0
IsAResponse x = (departure_path x ≡ Some Client) × IsMessage x.leaves.payload (answered x) × (((answered x).class ≡ Success) ⊎ ((answered x).class ≡ Error))

-- by an act that relays from the client, by one that relays to it, or by a response
abbrev pub IsOfAKind : Situation → Type 0
IsOfAKind x = (departure_path x ≡ Some Relay) ⊎ (arrival_path x ≡ Some Relay) ⊎ IsAResponse x

-- an earlier act sent the departure
pub record IsGivenBy (taken : Taken) (key_for : KeyFor) (t : SightId) (before : List Step) : Type 0 where
  pub earlier : List Step
  pub act : Step
  pub more : List Step
  pub whole : earlier ++ act ∷ more ≡ before
  pub client : Pair
  pub arrives : Sighting
  pub leaves : Sighting
  pub is_act : IsAct taken key_for client act arrives leaves
  pub this : is_act.gives ≡ t
  pub kind : IsOfAKind (situation_of taken key_for client act.moment arrives leaves)

-- at this place of the list is an act for the client, with this arrival and this departure
abbrev pub ActsAt : Taken → KeyFor → List Step → List Step → Step → Pair → Sighting → Sighting → Type 0
ActsAt taken key_for list before e c arrives leaves = ((rest : List Step) × (before ++ e ∷ rest ≡ list)) × IsAct taken key_for c e arrives leaves

-- Each act whose departure leaves from a relayed address is grounded, and each whose arrival came
-- to one, and each departure is sent by an act: one of these, or a response to the client.
pub record IsGrounded (taken : Taken) (key_for : KeyFor) (list : List Step) : Type 0 where
  pub up : (before : List Step) (e : Step) (c : Pair) (arrives leaves : Sighting) → ActsAt taken key_for list before e c arrives leaves →
      departure_path (situation_of taken key_for c e.moment arrives leaves) ≡ Some Relay → GroundedUp taken key_for c e.moment arrives leaves before
  pub down : (before : List Step) (e : Step) (c : Pair) (arrives leaves : Sighting) → ActsAt taken key_for list before e c arrives leaves →
      arrival_path (situation_of taken key_for c e.moment arrives leaves) ≡ Some Relay → GroundedDown taken key_for c e.moment arrives leaves before
  pub sent : (before : List Step) (e : Step) (rest : List Step) → before ++ e ∷ rest ≡ list → (t : SightId) → e.move ≡ Out t → IsGivenBy taken key_for t before
