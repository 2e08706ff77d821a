-- Permissions and channels, by the content of acts, without any table (RFC 8656, sections 9 to 12).
use Rattle.std.specs.Prelude.{ℕ, ◌≡◌, ◌==◌, IsTrue, List, ◌∷◌, ◌++◌, Option, Some, None}
use Rattle.std.specs.List.{AllByRecursion, list_any}
use Rattle.audit_model.specs.declared.address.Addr.{Addr}
use Rattle.audit_model.specs.declared.pair.Pair.{Pair}
use Rattle.audit_model.specs.declared.sighting.Sighting.{Sighting}
use Rattle.audit_keys.specs.Authentic.{IsAuthentic}
use Rattle.audit_sightings.specs.Intake.{Taken}
use Rattle.audit_rules.specs.Allocating.{seconds_after}
use Rattle.audit_rules.specs.Keys.{KeyFor}
use Rattle.audit_server.specs.Step.{Step}
use Rattle.audit_whole.specs.Says.{Said, Nothing, Allocates, Refreshes, Permits, Channels, says}
use Rattle.audit_whole.specs.Lasting.{situation_of, IsAct}

-- it permits this IP: a CreatePermission that names it, or a ChannelBind to a peer with it
abbrev pub PermitsIp : Said → ℕ → Type 0
PermitsIp Nothing ip = ⊥
PermitsIp (Allocates id relayed seconds) ip = ⊥
PermitsIp (Refreshes seconds) ip = ⊥
PermitsIp (Permits None) ip = ⊥
PermitsIp (Permits (Some ips)) ip = IsTrue (list_any (λ one. one == ip) ips)
PermitsIp (Channels number None) ip = ⊥
PermitsIp (Channels number (Some peer)) ip = peer.ip ≡ ip

module _ (taken : Taken) (key_for : KeyFor) (c : Pair) where
  -- one of the steps is an act for the client, requested by the user, that permits the IP for 300
  -- seconds
  pub record Permitted (user : List ℕ) (ip until : ℕ) (since : List Step) : Type 0 where
    pub earlier : List Step
    pub act : Step
    pub later' : List Step
    pub whole : earlier ++ act ∷ later' ≡ since
    pub arrives : Sighting
    pub leaves : Sighting
    pub is_act : IsAct taken key_for c act arrives leaves
    pub permits : PermitsIp (says (situation_of taken key_for c act.moment arrives leaves)) ip
    pub authentic : IsAuthentic key_for arrives.payload user
    pub until_is : until ≡ seconds_after act.moment 300

  -- it is no ChannelBind success response to the client for this number
  abbrev pub LeavesChannel : ℕ → Step → Type 0
  LeavesChannel number e =
      (arrives leaves : Sighting) → IsAct taken key_for c e arrives leaves → (peer : Option Addr) → says (situation_of taken key_for c e.moment arrives leaves) ≡ Channels (Some number) peer → ⊥

  -- the last ChannelBind of the client for the number, requested by the user, is to this peer, for
  -- 600 seconds
  pub record BoundTo (user : List ℕ) (number : ℕ) (peer : Addr) (until : ℕ) (since : List Step) : Type 0 where
    pub earlier : List Step
    pub act : Step
    pub later' : List Step
    pub whole : earlier ++ act ∷ later' ≡ since
    pub arrives : Sighting
    pub leaves : Sighting
    pub is_act : IsAct taken key_for c act arrives leaves
    pub binds : says (situation_of taken key_for c act.moment arrives leaves) ≡ Channels (Some number) (Some peer)
    pub last : AllByRecursion (LeavesChannel number) later'
    pub authentic : IsAuthentic key_for arrives.payload user
    pub until_is : until ≡ seconds_after act.moment 600
