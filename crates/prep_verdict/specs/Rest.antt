-- The packets of a capture, and those that stay if lines of a list exclude others.
use Rattle.std.specs.Prelude.{ℕ, List, map, filter, Option, option_map}
use Rattle.std.specs.List.{filter_map}
use Rattle.audit_pcapng.specs.declared.packet.Packet.{Packet}
use Rattle.prep_blocks.specs.declared.block.Block.{Block}
use Rattle.prep_blocks.specs.declared.block.PacketHead.{PacketHead}
use Rattle.prep_cut.specs.declared.plan.Plan.{Plan}
use Rattle.prep_cut.specs.declared.plan.Proposal.{Proposal}
use Rattle.prep_frames.specs.Frames.{frame_in}
use Rattle.prep_cut.specs.Marks.{Marked, marked, is_written}
use Rattle.prep_program.specs.CutComment.{file_of}

-- a packet, by its block's fields and its bytes
abbrev pub packet_by : Block → PacketHead → Packet
packet_by block head = record { stamp = head.stamp; bytes = frame_in block head; iface = head.iface; captured = head.captured; original = head.original }

-- the packet of a block; `None` if it has none
abbrev pub packet_in : Block → Option Packet
packet_in block = option_map (packet_by block) block.packet

-- the packets of blocks, in order
abbrev pub packets_in : List Block → List Packet
packets_in blocks = filter_map packet_in blocks

-- the blocks that no line excludes
abbrev pub rest_of : List Marked → List Block
rest_of blocks = map (λ (one : Marked). one.block) (filter is_written blocks)

-- A capture's text, its blocks, and the proposals for its packets.
pub record Capture : Type 0 where
  pub text : List ℕ
  pub blocks : List Block
  pub proposals : List Proposal

-- the blocks of it that stay by a plan
abbrev pub stays : Plan → Capture → List Block
stays plan capture = rest_of (marked plan capture.proposals capture.blocks)

-- the file that is written for it, with its comment
abbrev pub written : Plan → Capture → List ℕ
written plan capture = file_of plan (marked plan capture.proposals capture.blocks)
