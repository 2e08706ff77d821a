-- The reasons, in a run, of a departure from a relayed address, and of data that was sent to a
-- client.
use Rattle.std.specs.Prelude.{◌≡◌, ◌⊎◌, ℕ, List, ◌∷◌, ◌++◌, IsSome, IsTrue, Some}
use Rattle.audit_model.specs.declared.pair.Pair.{Pair}
use Rattle.audit_model.specs.declared.sighting.SightId.{SightId}
use Rattle.audit_model.specs.declared.sighting.Sighting.{Sighting}
use Rattle.audit_model.specs.Policy.{listens, relays}
use Rattle.audit_stun.specs.declared.class.Class.TheVariants.{Indication}
use Rattle.audit_stun.specs.declared.numbers.method.TheConstants.{DATA}
use Rattle.audit_stun.specs.ChannelData.{channel_data_of}
use Rattle.audit_sightings.specs.Intake.{Taken, sighting_at}
use Rattle.audit_rules.specs.Keys.{KeyFor}
use Rattle.audit_rules.specs.Situation.{IsOf}
use Rattle.audit_server.specs.Step.{Step, Out}
use Rattle.audit_whole.specs.Lasting.{IsAct}
use Rattle.audit_whole.specs.Relayed.{GroundedUp, GroundedDown}

-- an earlier act for some client sent it, and has its reasons
pub record IsRelayedUp (taken : Taken) (key_for : KeyFor) (t : SightId) (leaves : Sighting) (before : List Step) : Type 0 where
  pub earlier : List Step
  pub act : Step
  pub more : List Step
  pub whole : earlier ++ act ∷ more ≡ before
  pub client : Pair
  pub arrives : Sighting
  pub is_act : IsAct taken key_for client act arrives leaves
  pub this : is_act.gives ≡ t
  pub grounded : GroundedUp taken key_for client act.moment arrives leaves earlier

-- an earlier act for some client sent it: the data that a peer had sent to the client's relayed
-- address, under its permission
pub record IsRelayedDown (taken : Taken) (key_for : KeyFor) (t : SightId) (leaves : Sighting) (before : List Step) : Type 0 where
  pub earlier : List Step
  pub act : Step
  pub more : List Step
  pub whole : earlier ++ act ∷ more ≡ before
  pub client : Pair
  pub arrives : Sighting
  pub is_act : IsAct taken key_for client act arrives leaves
  pub this : is_act.gives ≡ t
  pub grounded : GroundedDown taken key_for client act.moment arrives leaves earlier

-- a Data indication, or ChannelData (RFC 8656, sections 11.3 and 12.7)
abbrev pub CarriesData : List ℕ → Type 0
CarriesData payload = IsOf payload Indication DATA ⊎ IsSome (channel_data_of payload)

-- Every departure from a relayed address was relayed for a client, and every departure with data
-- from a listen address was relayed to one.
abbrev pub AreRelayed : Taken → KeyFor → List Step → Type 0
AreRelayed taken key_for list =
    (before : List Step) (e : Step) (rest : List Step) → before ++ e ∷ rest ≡ list → (t : SightId) → e.move ≡ Out t → (leaves : Sighting) → sighting_at taken t ≡ Some leaves →
    (IsTrue (relays taken.policy leaves.from) → IsRelayedUp taken key_for t leaves before)
    × (IsTrue (listens taken.policy leaves.from) → CarriesData leaves.payload → IsRelayedDown taken key_for t leaves before)
