-- Repeats of arrivals: the same datagram, or the same data in another Send indication, from and to
-- the same addresses.
use Rattle.std.specs.Prelude.{◌≡◌, ◌⊎◌, ℕ, ◌<◌, ◌≤◌, IsFalse, List, Option, None, Some, slice_get}
use Rattle.audit_model.specs.declared.policy.Policy.{Policy}
use Rattle.audit_model.specs.declared.sighting.Sighting.{Sighting}
use Rattle.audit_model.specs.Policy.{relays}
use Rattle.audit_stun.specs.declared.class.Class.TheVariants.{Indication}
use Rattle.audit_stun.specs.declared.numbers.attribute.TheConstants.{DATA, XOR_PEER_ADDRESS}
use Rattle.audit_stun.specs.declared.numbers.method.TheConstants.{SEND}
use Rattle.audit_stun.specs.ChannelData.{channel_data_of}
use Rattle.audit_stun.specs.Counted.{first_of}
use Rattle.audit_stun.specs.Parts.{parts_of}
use Rattle.audit_rules.specs.Situation.{IsOf}
use Rattle.audit_rules.specs.Values.{address_named}
use Rattle.audit_sightings.specs.Intake.{Taken, sighting_at}
use Rattle.audit_faults.specs.declared.keyed.Keyed.{Keyed}

-- they differ by their moments alone
abbrev pub AreSame : Sighting → Sighting → Type 0
AreSame earlier later = earlier ≡ record later { stamp = earlier.stamp; lo = earlier.lo; hi = earlier.hi; id = earlier.id }

-- Send indications with the same data for the same peer (RFC 8656, section 11.1)
pub record AreSameSend (earlier later : List ℕ) : Type 0 where
  pub first : IsOf earlier Indication SEND
  pub again : IsOf later Indication SEND
  pub not_channel : channel_data_of later ≡ None
  pub peer : address_named XOR_PEER_ADDRESS (parts_of earlier) ≡ address_named XOR_PEER_ADDRESS (parts_of later)
  pub content : first_of DATA (parts_of earlier).attributes ≡ first_of DATA (parts_of later).attributes

-- a client sent the same data to the same peer in another Send indication
pub record IsSentAgain (policy : Policy) (earlier later : Sighting) : Type 0 where
  pub side : earlier.side ≡ later.side
  pub from : earlier.from ≡ later.from
  pub to : earlier.to ≡ later.to
  pub to_server : IsFalse (relays policy later.to)
  pub payload : AreSameSend earlier.payload later.payload

-- the later one requests no more than the earlier one, which may have come first
pub record IsRepeat (policy : Policy) (earlier later : Sighting) : Type 0 where
  pub first : earlier.lo ≤ later.lo
  pub same : AreSame earlier later ⊎ IsSentAgain policy earlier later

module _ (taken : Taken) (places : List Keyed) where
  -- the sighting is at this place
  abbrev pub IsPlaced : ℕ → Sighting → Type 0
  IsPlaced place s = (one : Keyed) × (slice_get places place ≡ Some one) × (sighting_at taken one.sight ≡ Some s)

  -- the sighting at a place repeats the one at a place before it
  pub record IsRepeated (before place : ℕ) : Type 0 where
    pub ahead : before < place
    pub earlier : Sighting
    pub there : IsPlaced before earlier
    pub later : Sighting
    pub here : IsPlaced place later
    pub repeats : IsRepeat taken.policy earlier later

  -- each place that is marked as a repeat is one
  abbrev pub AreRepeats : List (Option ℕ) → Type 0
  AreRepeats repeats = (place before : ℕ) → slice_get repeats place ≡ Some (Some before) → IsRepeated before place

  -- a place before this one, and no earlier than the first, has a sighting with the property
  abbrev pub HasBefore : (Sighting → Type 0) → ℕ → ℕ → Type 0
  HasBefore P first place = (before : ℕ) × (first ≤ before) × (before < place) × ((s : Sighting) × IsPlaced before s × P s)
