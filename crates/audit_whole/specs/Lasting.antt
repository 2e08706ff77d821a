-- An allocation that lasts, by the content of acts, without any table (RFC 8656, sections 7 and 8).
use Rattle.std.specs.Prelude.{ℕ, ◌≡◌, ◌<◌, ◌≤◌, List, [], ◌∷◌, ◌++◌, Option, Some, None}
use Rattle.std.specs.Bool.{MatchBool}
use Rattle.audit_model.specs.declared.address.Addr.{Addr}
use Rattle.audit_model.specs.declared.pair.Pair.{Pair}
use Rattle.audit_model.specs.declared.sighting.SightId.{SightId}
use Rattle.audit_model.specs.declared.sighting.Sighting.{Sighting}
use Rattle.audit_model.specs.Sames.{same_client}
use Rattle.audit_model.specs.Window.{later}
use Rattle.audit_keys.specs.Authentic.{IsAuthentic}
use Rattle.audit_sightings.specs.Intake.{Taken, sighting_at}
use Rattle.audit_rules.specs.Allocating.{seconds_after}
use Rattle.audit_rules.specs.Keys.{KeyFor}
use Rattle.audit_rules.specs.Situation.{Situation}
use Rattle.audit_server.specs.Captured.{situation_at}
use Rattle.audit_server.specs.Step.{Step, Move, In, Act, Out}
use Rattle.audit_whole.specs.Says.{Said, Nothing, Allocates, Refreshes, Permits, Channels, says}

module _ (taken : Taken) (key_for : KeyFor) (c : Pair) where
  -- an act for the client, with this arrival and this departure
  abbrev pub situation_of : ℕ → Sighting → Sighting → Situation
  situation_of moment arrives leaves = situation_at taken.policy key_for c moment None arrives leaves

  -- the step is an act for the client, with this arrival and this departure
  pub record IsAct (e : Step) (arrives leaves : Sighting) : Type 0 where
    pub sight : SightId
    pub gives : SightId
    pub is : e.move ≡ Act c sight gives
    pub arrived : sighting_at taken sight ≡ Some arrives
    pub left : sighting_at taken gives ≡ Some leaves

  -- By the content of an act, an allocation of this user, id and address goes on from one end to
  -- another: each Allocate success response repeats its id and address, and each Refresh success
  -- response is the user's, comes in time, and doesn't have LIFETIME 0.
  abbrev pub GoesOn : List ℕ → List ℕ → Addr → Said → List ℕ → ℕ → ℕ → (ℕ → Type 0) → Type 0
  GoesOn user id relayed Nothing payload moment until rest = rest until
  GoesOn user id relayed (Allocates tid address seconds) payload moment until rest = (tid ≡ id) × (address ≡ Some relayed) × rest until
  GoesOn user id relayed (Refreshes None) payload moment until rest = ⊥
  GoesOn user id relayed (Refreshes (Some seconds)) payload moment until rest =
      (0 < seconds) × IsAuthentic key_for payload user × (moment ≤ later until taken.policy.grace) × rest (seconds_after moment seconds)
  GoesOn user id relayed (Permits ips) payload moment until rest = rest until
  GoesOn user id relayed (Channels number peer) payload moment until rest = rest until

  abbrev pub GoesOnBetween : List ℕ → List ℕ → Addr → Option Sighting → Option Sighting → ℕ → ℕ → (ℕ → Type 0) → Type 0
  GoesOnBetween user id relayed None leaves moment until rest = rest until
  GoesOnBetween user id relayed (Some arrives) None moment until rest = rest until
  GoesOnBetween user id relayed (Some arrives) (Some leaves) moment until rest =
      GoesOn user id relayed (says (situation_of moment arrives leaves)) arrives.payload moment until rest

  -- moves of other clients don't change it
  abbrev pub GoesOnBy : List ℕ → List ℕ → Addr → Move → ℕ → ℕ → (ℕ → Type 0) → Type 0
  GoesOnBy user id relayed (In s) moment until rest = rest until
  GoesOnBy user id relayed (Act d s t) moment until rest =
      MatchBool (same_client d c) (GoesOnBetween user id relayed (sighting_at taken s) (sighting_at taken t) moment until rest) (rest until)
  GoesOnBy user id relayed (Out t) moment until rest = rest until

  -- from one end to another along the steps
  abbrev pub Lasts : List ℕ → List ℕ → Addr → List Step → ℕ → ℕ → Type 0
  Lasts user id relayed [] end until = until ≡ end
  Lasts user id relayed (e ∷ es) end until = GoesOnBy user id relayed e.move e.moment until (Lasts user id relayed es end)

  -- An earlier act, requested by the user, granted the client the address, and it lasted from then
  -- up to an end.
  pub record Given (user id : List ℕ) (relayed : Addr) (end : ℕ) (before since : List Step) : Type 0 where
    pub first : List Step
    pub act : Step
    pub whole : first ++ act ∷ since ≡ before
    pub arrives : Sighting
    pub leaves : Sighting
    pub is_act : IsAct act arrives leaves
    pub seconds : ℕ
    pub allocates : says (situation_of act.moment arrives leaves) ≡ Allocates id (Some relayed) (Some seconds)
    pub authentic : IsAuthentic key_for arrives.payload user
    pub lasts : Lasts user id relayed since end (seconds_after act.moment seconds)
