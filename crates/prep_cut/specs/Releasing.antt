-- Refresh success responses with LIFETIME 0, by which clients delete their allocations.
use Rattle.std.specs.Prelude.{◌≡◌, ◌⊎◌, ℕ, Bool, true, List, [], ◌∷◌, Option, Some, None, nat_lt}
use Rattle.std.specs.declared.cmp.Ordering.{Ordering}
use Rattle.std.specs.BTreeSet.{contains}
use Rattle.std.specs.Ordering.{nat_cmp, ordering_then}
use Rattle.audit_model.specs.declared.policy.Policy.{Policy}
use Rattle.audit_model.specs.LanePairs.{addr_cmp}
use Rattle.audit_model.specs.Policy.{listens}
use Rattle.audit_packets.specs.Reading as frame
use Rattle.audit_packets.specs.Reading.{Datagram as Held, datagram_of}
use Rattle.audit_stun.specs.declared.class.Class.TheVariants.{Success}
use Rattle.audit_stun.specs.declared.numbers.attribute.TheConstants.{LIFETIME}
use Rattle.audit_stun.specs.declared.numbers.method.TheConstants.{REFRESH}
use Rattle.audit_stun.specs.Counted.{first_of}
use Rattle.audit_stun.specs.Message.{IsMessage}
use Rattle.audit_stun.specs.Parts.{parts_of}
use Rattle.prep_blocks.specs.declared.block.Block.{Block}
use Rattle.prep_blocks.specs.declared.block.PacketHead.{PacketHead}
use Rattle.prep_cut.specs.declared.allocations.Allocations.{Allocations}
use Rattle.prep_cut.specs.declared.release.Release.{Release}
use Rattle.prep_frames.specs.Frames.{frame_in}

-- the payload is a Refresh success response with LIFETIME 0
pub record EndsAllocation (payload : List ℕ) : Type 0 where
  pub message : IsMessage payload (parts_of payload)
  pub success : (parts_of payload).class ≡ Success
  pub refresh : (parts_of payload).method ≡ REFRESH
  pub zero : first_of LIFETIME (parts_of payload).attributes ≡ Some (0 ∷ 0 ∷ 0 ∷ 0 ∷ [])

-- a datagram of this moment is one that a listen address sent to the client
pub record IsRelease (policy : Policy) (moment : ℕ) (held : Held) (release : Release) : Type 0 where
  pub payload : List ℕ
  pub sent : held ≡ frame.Udp release.listen release.client payload
  pub listens_there : listens policy release.listen ≡ true
  pub then : release.moment ≡ moment
  pub ends : EndsAllocation payload

abbrev pub IsReleaseOf : Policy → Block → Option PacketHead → Release → Type 0
IsReleaseOf policy block None release = ⊥
IsReleaseOf policy block (Some head) release = IsRelease policy head.stamp (datagram_of (frame_in block head) (nat_lt head.captured head.original)) release

-- the block's packet is such a datagram
abbrev pub IsReleaseIn : Policy → Release → Block → Type 0
IsReleaseIn policy release block = IsReleaseOf policy block block.packet release

-- the order of deletions
abbrev pub release_cmp : Release → Release → Ordering
release_cmp a b = ordering_then (addr_cmp a.client b.client) (ordering_then (addr_cmp a.listen b.listen) (nat_cmp a.moment b.moment))

-- the deletion is recorded
abbrev pub is_released : Allocations → Release → Bool
is_released allocations release = contains release_cmp allocations.released release

-- one of these blocks shows the deletion
abbrev pub IsShownBy : Policy → Release → List Block → Type 0
IsShownBy policy release [] = ⊥
IsShownBy policy release (first ∷ others) = IsReleaseIn policy release first ⊎ IsShownBy policy release others

-- each recorded deletion is shown by one of these blocks
abbrev pub AreReleased : Policy → Allocations → List Block → Type 0
AreReleased policy allocations blocks = (release : Release) → is_released allocations release ≡ true → IsShownBy policy release blocks
