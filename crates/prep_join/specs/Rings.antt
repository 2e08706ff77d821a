-- The joined blocks, by lists of the captures' blocks.
use Rattle.std.specs.Prelude.{◌≡◌, ℕ, ◌≤◌, ◌^◌, ◌-◌, Bool, true, false, not, List, [], ◌∷◌, ◌++◌, length, map, filter, fold, max, Option, Some, None, ◌==◌, if◌then◌else◌}
use Rattle.std.specs.List.{concat}
use Rattle.std.specs.Int.{w64}
use Rattle.audit_pcapng.specs.declared.block_kind.BlockKind.{BlockKind}
use Rattle.audit_pcapng.specs.declared.block_kind.BlockKind.TheVariants as kinds
use Rattle.audit_pcapng.specs.declared.byte_order.ByteOrder.{ByteOrder}
use Rattle.audit_pcapng.specs.Numbers.{number_at}
use Rattle.prep_blocks.specs.declared.block.Block.{Block}
use Rattle.prep_blocks.specs.declared.block.PacketHead.{PacketHead}
use Rattle.prep_blocks.specs.Read.{bytes_of}

abbrev pub section_kind : BlockKind → Bool
section_kind kinds.Section = true
section_kind kinds.Interface = false
section_kind kinds.Statistics = false
section_kind kinds.Packet = false
section_kind kinds.NoStamp = false
section_kind kinds.Other = false

abbrev pub interface_kind : BlockKind → Bool
interface_kind kinds.Section = false
interface_kind kinds.Interface = true
interface_kind kinds.Statistics = false
interface_kind kinds.Packet = false
interface_kind kinds.NoStamp = false
interface_kind kinds.Other = false

abbrev pub data_kind : BlockKind → Bool
data_kind kinds.Section = false
data_kind kinds.Interface = false
data_kind kinds.Statistics = true
data_kind kinds.Packet = true
data_kind kinds.NoStamp = false
data_kind kinds.Other = false

abbrev pub is_section : Block → Bool
is_section block = section_kind block.kind

abbrev pub is_interface : Block → Bool
is_interface block = interface_kind block.kind

-- a packet or statistics
abbrev pub is_data : Block → Bool
is_data block = data_kind block.kind

abbrev pub head_kind : BlockKind → Bool
head_kind kinds.Section = true
head_kind kinds.Interface = true
head_kind kinds.Statistics = false
head_kind kinds.Packet = false
head_kind kinds.NoStamp = false
head_kind kinds.Other = false

-- a section header or an interface
abbrev pub is_head : Block → Bool
is_head block = head_kind block.kind

-- after captures that are done, a block is written unless it is a head
abbrev pub is_kept : List (List Block) → Block → Bool
is_kept [] block = true
is_kept (first ∷ others) block = not (is_head block)

-- the blocks of captures, one after another
abbrev pub all_of : List (List Block) → List Block
all_of [] = []
all_of (first ∷ others) = first ++ all_of others

-- the written bytes of a capture's blocks
abbrev pub written_of : List (List Block) → List Block → List ℕ
written_of done blocks = bytes_of (filter (is_kept done) blocks)

-- the whole first capture, and of each other one all blocks except the section header and the
-- interfaces
abbrev pub joined : List (List Block) → List ℕ
joined [] = []
joined (first ∷ others) = bytes_of first ++ concat (map (λ (blocks : List Block). bytes_of (filter (λ (b : Block). not (is_head b)) blocks)) others)

-- a capture's interface blocks, one after another
abbrev pub interfaces_of : List Block → List ℕ
interfaces_of blocks = bytes_of (filter is_interface blocks)

-- the byte orders of its sections
abbrev pub orders_of : List Block → List ByteOrder
orders_of blocks = map (λ (b : Block). b.order) (filter is_section blocks)

-- the first capture, done or not
abbrev pub first_of : List (List Block) → List Block → List Block
first_of [] current = current
first_of (first ∷ others) current = first

-- a section that states no length
abbrev pub IsUnbounded : Block → Type 0
IsUnbounded block = (24 ≤ length block.bytes) × (number_at block.order w64 16 block.bytes ≡ 2 ^ 64 - 1)

-- a block has a packet on this interface
abbrev pub on_interface : ℕ → Option PacketHead → Bool
on_interface iface None = false
on_interface iface (Some head) = head.iface == iface

abbrev pub is_on : ℕ → Block → Bool
is_on iface block = on_interface iface block.packet

abbrev pub greatest : Option ℕ → ℕ → ℕ
greatest None stamp = stamp
greatest (Some latest) stamp = max latest stamp

abbrev pub with_stamp : ℕ → Option ℕ → Option PacketHead → Option ℕ
with_stamp iface latest None = latest
with_stamp iface latest (Some head) = if head.iface == iface then Some (greatest latest head.stamp) else latest

-- the latest stamp of an interface
abbrev pub latest_on : ℕ → List Block → Option ℕ
latest_on iface blocks = fold (λ (latest : Option ℕ) (b : Block). with_stamp iface latest b.packet) None blocks
