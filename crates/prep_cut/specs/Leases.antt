-- Success responses that grant, refresh or delete an allocation, as blocks show them.
use Rattle.std.specs.Prelude.{◌≡◌, ◌⊎◌, ◌==◌, if◌then◌else◌, ℕ, true, List, [], ◌∷◌, Option, Some, None}
use Rattle.std.specs.Int.{w32, from_be_bytes}
use Rattle.audit_model.specs.declared.address.Addr.{Addr}
use Rattle.audit_model.specs.declared.policy.Policy.{Policy}
use Rattle.audit_model.specs.Policy.{listens}
use Rattle.audit_packets.specs.Reading as frame
use Rattle.audit_packets.specs.Reading.{Datagram as Held, datagram_of}
use Rattle.std.specs.Prelude.{nat_lt}
use Rattle.audit_stun.specs.declared.class.Class.{Class}
use Rattle.audit_stun.specs.declared.class.Class.TheVariants as classes
use Rattle.audit_stun.specs.declared.numbers.attribute.TheConstants.{LIFETIME, XOR_RELAYED_ADDRESS}
use Rattle.audit_stun.specs.declared.numbers.method.TheConstants.{ALLOCATE, REFRESH}
use Rattle.audit_stun.specs.Counted.{first_of}
use Rattle.audit_stun.specs.Message.{IsMessage, Parts}
use Rattle.audit_stun.specs.Parts.{parts_of}
use Rattle.audit_stun.specs.XorAddress.{address_of}
use Rattle.prep_blocks.specs.declared.block.Block.{Block}
use Rattle.prep_blocks.specs.declared.block.PacketHead.{PacketHead}
use Rattle.prep_cut.specs.declared.lease.Act.TheVariants as acts
use Rattle.prep_cut.specs.declared.lease.Event.{Event}
use Rattle.prep_cut.specs.declared.lease.Said.{Said}
use Rattle.prep_frames.specs.Frames.{frame_in}

-- the seconds of a LIFETIME
abbrev pub seconds_of : Option (List ℕ) → Option ℕ
seconds_of (Some (a ∷ b ∷ c ∷ d ∷ [])) = Some (from_be_bytes w32 (a ∷ b ∷ c ∷ d ∷ []))
seconds_of _ = None

abbrev pub relayed_of : Option (List ℕ) → Option Addr
relayed_of None = None
relayed_of (Some value) = address_of value

-- a Refresh with LIFETIME 0 deletes the allocation, another one refreshes it
abbrev pub renewal_of : ℕ → Said
renewal_of seconds = record { act = if seconds == 0 then acts.Ends else acts.Renews; seconds = seconds }

abbrev pub grant_of : Parts → ℕ → Option Addr → Option Said
grant_of parts seconds None = None
grant_of parts seconds (Some relayed) = Some (record { act = acts.Grants relayed parts.tid; seconds = seconds })

abbrev pub said_for : Parts → Option ℕ → Option Said
said_for parts None = None
said_for parts (Some seconds) =
    if parts.method == ALLOCATE then grant_of parts seconds (relayed_of (first_of XOR_RELAYED_ADDRESS parts.attributes))
    else (if parts.method == REFRESH then Some (renewal_of seconds) else None)

abbrev pub said_by_class : Parts → Class → Option Said
said_by_class parts classes.Success = said_for parts (seconds_of (first_of LIFETIME parts.attributes))
said_by_class parts _ = None

-- the contents of a success response
abbrev pub said_of : Parts → Option Said
said_of parts = said_by_class parts parts.class

-- the payload is such a success response
pub record IsSaid (payload : List ℕ) (said : Said) : Type 0 where
  pub message : IsMessage payload (parts_of payload)
  pub says : said_of (parts_of payload) ≡ Some said

-- a datagram of this moment is one that a listen address sent to the client
pub record IsEvent (policy : Policy) (moment : ℕ) (held : Held) (event : Event) : Type 0 where
  pub payload : List ℕ
  pub sent : held ≡ frame.Udp event.listen event.client payload
  pub listens_there : listens policy event.listen ≡ true
  pub moment_is : event.moment ≡ moment
  pub said : IsSaid payload event.said

abbrev pub IsEventOf : Policy → Block → Option PacketHead → Event → Type 0
IsEventOf policy block None event = ⊥
IsEventOf policy block (Some head) event = IsEvent policy head.stamp (datagram_of (frame_in block head) (nat_lt head.captured head.original)) event

-- the block's packet is such a datagram
abbrev pub IsEventIn : Policy → Event → Block → Type 0
IsEventIn policy event block = IsEventOf policy block block.packet event

-- one of these blocks shows the event
abbrev pub IsEventShown : Policy → Event → List Block → Type 0
IsEventShown policy event [] = ⊥
IsEventShown policy event (first ∷ others) = IsEventIn policy event first ⊎ IsEventShown policy event others
