-- The packet of a reassembled datagram.
use Rattle.std.specs.Prelude.{ℕ, ◌+◌, ◌-◌, List, [], ◌∷◌, ◌++◌, length, take, ◌%◌, ◌==◌, if◌then◌else◌}
use Rattle.std.specs.List.{flat_map}
use Rattle.std.specs.Int.{w16, w32, to_be_bytes, to_le_bytes}
use Rattle.audit_packets.specs.Frame.{ethernet_length}
use Rattle.audit_pcapng.specs.Numbers.{padded}
use Rattle.audit_pcapng.specs.declared.byte_order.ByteOrder.{ByteOrder}
use Rattle.audit_pcapng.specs.declared.byte_order.ByteOrder.TheVariants.{Little, Big}
use Rattle.prep_blocks.specs.declared.block.Block.{Block}
use Rattle.prep_fragments.specs.Parts.{between, header_end, frame_of, data_of}

-- the data of fragments, one after another
abbrev pub datas_of : List Block → List ℕ
datas_of blocks = flat_map data_of blocks

-- a frame's Ethernet and IPv4 headers with other data: the total length is that of the whole, and
-- the fragment fields are zero. All other bytes stay, including the header's checksum.
abbrev pub frame_with : List ℕ → List ℕ → List ℕ
frame_with frame payload =
    let at = ethernet_length frame in
    let end = header_end frame at in
    take (at + 2) frame ++ to_be_bytes w16 (end - at + length payload) ++ between (at + 4) (at + 6) frame ++ 0 ∷ 0 ∷ [] ++ between (at + 8) end frame ++ payload

abbrev pub word : ByteOrder → ℕ → List ℕ
word Little n = to_le_bytes w32 n
word Big n = to_be_bytes w32 n

-- the zeros that pad this number of bytes to a multiple of four
abbrev pub filling : ℕ → List ℕ
filling size = if size % 4 == 0 then [] else if size % 4 == 1 then 0 ∷ 0 ∷ 0 ∷ [] else if size % 4 == 2 then 0 ∷ 0 ∷ [] else 0 ∷ []

-- the fields before the data in an Enhanced Packet Block (section 4.3), with the interface and
-- stamp of another block
abbrev pub front_with : Block → ℕ → ℕ → List ℕ
front_with last total size = word last.order 6 ++ word last.order total ++ between 8 20 last.bytes ++ word last.order size ++ word last.order size

-- such a block with this frame
abbrev pub block_with : Block → List ℕ → List ℕ
block_with last frame =
    let size = length frame in
    front_with last (32 + padded size) size ++ frame ++ filling size ++ word last.order (32 + padded size)

-- the whole of a datagram's fragments up to the last one, in the block of that one
abbrev pub whole_of : List Block → Block → List ℕ
whole_of [] last = []
whole_of (first ∷ others) last = block_with last (frame_with (frame_of first) (datas_of (first ∷ others) ++ data_of last))
