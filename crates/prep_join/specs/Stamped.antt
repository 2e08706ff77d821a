-- The state of stamps, and why packets are refused.
use Rattle.std.specs.Prelude.{◌≡◌, ℕ, ◌<◌, ◌≤◌, false, nat_eq, List, ◌++◌, Some, ◌==◌, ◌||◌}
use Rattle.std.specs.List.{list_any}
use Rattle.std.specs.HashMap.{get}
use Rattle.std.specs.HashSet.{contains}
use Rattle.audit_pcapng.specs.declared.fault.CaptureFault.TheVariants.{Memory}
use Rattle.prep_blocks.specs.declared.block.Block.{Block}
use Rattle.prep_blocks.specs.declared.block.PacketHead.{PacketHead}
use Rattle.prep_join.specs.declared.stamps.Stamps.{Stamps}
use Rattle.prep_join.specs.declared.fault.JoinFault.{JoinFault}
use Rattle.prep_join.specs.declared.fault.JoinFault.TheVariants as faults
use Rattle.prep_join.specs.Rings.{all_of, with_stamp, latest_on, is_on}

-- the latest stamps of all blocks so far, and the interfaces with a packet in this capture
pub record IsStamped (stamps : Stamps) (done : List (List Block)) (current : List Block) : Type 0 where
  pub latest : (iface : ℕ) → get nat_eq stamps.latest iface ≡ latest_on iface (all_of done ++ current)
  pub begun : (iface : ℕ) → contains nat_eq stamps.begun iface ≡ list_any (is_on iface) current

-- one more packet
pub record Notes (old new : Stamps) (head : PacketHead) : Type 0 where
  pub latest : (iface : ℕ) → get nat_eq new.latest iface ≡ with_stamp iface (get nat_eq old.latest iface) (Some head)
  pub begun : (iface : ℕ) → contains nat_eq new.begun iface ≡ (contains nat_eq old.begun iface || (head.iface == iface))

-- the interface has no packet yet in this capture, and one in an earlier capture that is later than
-- this packet
abbrev pub IsEarly : JoinFault → Stamps → PacketHead → Type 0
IsEarly (faults.Capture fault) stamps head = fault ≡ Memory
IsEarly (faults.Early iface) stamps head = (iface ≡ head.iface) × (contains nat_eq stamps.begun iface ≡ false) × (latest : ℕ) × (get nat_eq stamps.latest iface ≡ Some latest) × (head.stamp < latest)
IsEarly other stamps head = ⊥

-- the first packet of an interface in this capture is no earlier than any of an earlier capture
abbrev pub FitsStamps : List (List Block) → List Block → Block → Type 0
FitsStamps done current block = (head : PacketHead) → block.packet ≡ Some head → list_any (is_on head.iface) current ≡ false →
    (latest : ℕ) → latest_on head.iface (all_of done ++ current) ≡ Some latest → latest ≤ head.stamp

-- or it is earlier
abbrev pub RefusesStamps : JoinFault → List (List Block) → List Block → Block → Type 0
RefusesStamps (faults.Capture fault) done current block = fault ≡ Memory
RefusesStamps (faults.Early iface) done current block = (head : PacketHead) × (block.packet ≡ Some head) × (iface ≡ head.iface) × (list_any (is_on iface) current ≡ false)
    × (latest : ℕ) × (latest_on iface (all_of done ++ current) ≡ Some latest) × (head.stamp < latest)
RefusesStamps other done current block = ⊥
