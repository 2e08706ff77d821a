-- Which blocks of a capture are excluded, and by which line of the list.
use Rattle.std.specs.Prelude.{ℕ, Bool, true, false, ◌&&◌, nat_le, ◌==◌, if◌then◌else◌, List, [], ◌∷◌, map, filter, drop, Option, Some, None, is_none, slice_get}
use Rattle.prep_blocks.specs.declared.block.Block.{Block}
use Rattle.prep_blocks.specs.declared.block.PacketHead.{PacketHead}
use Rattle.prep_blocks.specs.Read.{bytes_of}
use Rattle.prep_causes.specs.Numbers.{number_in}
use Rattle.prep_cut.specs.declared.plan.Plan.{Plan}
use Rattle.prep_cut.specs.declared.plan.Proposal.{Proposal}
use Rattle.prep_cut.specs.declared.reason.Reason.{Reason}
use Rattle.prep_cut.specs.declared.reason.Reason.TheVariants as reasons
use Rattle.prep_cut.specs.Datagrams.{datagram_of_block}
use Rattle.prep_cut.specs.Edges.{edge_of}
use Rattle.prep_cut.specs.Guard.{may_leave_packet}

-- `edge` excludes something only until the hold and twice the greatest skew after the start of the
-- captures
abbrev pub is_at_edge : Plan → Reason → ℕ → Bool
is_at_edge plan reasons.Edge stamp = nat_le stamp (edge_of plan.policy plan.stated plan.allocations)
is_at_edge plan other stamp = true

abbrev pub may_leave_head : Plan → Option Reason → Block → Option PacketHead → Bool
may_leave_head plan None block packet = false
may_leave_head plan (Some reason) block None = false
may_leave_head plan (Some reason) block (Some head) =
    is_at_edge plan reason head.stamp && may_leave_packet plan.stated plan.allocations reason head.stamp (datagram_of_block plan.policy block)

-- the line's reason may exclude the block's packet
abbrev pub may_leave_at : Plan → ℕ → Block → Bool
may_leave_at plan line block = may_leave_head plan (slice_get plan.lines line) block block.packet

-- the line that excludes a block; none if the block is written
abbrev pub line_of : Plan → Option ℕ → Block → Option ℕ
line_of plan None block = None
line_of plan (Some line) block = if may_leave_at plan line block then Some line else None

abbrev pub first_of : List Proposal → Option Proposal
first_of [] = None
first_of (first ∷ others) = Some first

-- proposals are for the packets in order: the proposal for a block's packet
abbrev pub proposed_for : Option PacketHead → List Proposal → Option Proposal
proposed_for None proposals = None
proposed_for (Some head) proposals = first_of proposals

-- and those for the packets after it
abbrev pub behind : Option PacketHead → List Proposal → List Proposal
behind None proposals = proposals
behind (Some head) proposals = drop 1 proposals

abbrev pub proposed_line : Option Proposal → Option ℕ
proposed_line None = None
proposed_line (Some proposal) = number_in proposal.line

abbrev pub proposed_cause : Option Proposal → Option ℕ
proposed_cause None = None
proposed_cause (Some proposal) = number_in proposal.cause

-- a block, the line that excludes it, and the number that it shares with another block
pub record Marked : Type 0 where
  pub block : Block
  pub line : Option ℕ
  pub cause : Option ℕ

abbrev pub marked_of : Plan → Option Proposal → Block → Marked
marked_of plan proposal block = record { block = block; line = line_of plan (proposed_line proposal) block; cause = proposed_cause proposal }

abbrev pub marked_by : Plan → List Proposal → Block → Marked
marked_by plan proposals block = marked_of plan (proposed_for block.packet proposals) block

-- the blocks of a capture, each with its line
abbrev pub marked : Plan → List Proposal → List Block → List Marked
marked plan proposals [] = []
marked plan proposals (first ∷ others) = marked_by plan proposals first ∷ marked plan (behind first.packet proposals) others

-- the proposals after blocks
abbrev pub proposals_behind : List Proposal → List Block → List Proposal
proposals_behind proposals [] = proposals
proposals_behind proposals (first ∷ others) = proposals_behind (behind first.packet proposals) others

-- no line excludes it
abbrev pub is_written : Marked → Bool
is_written one = is_none one.line

-- the written bytes: byte for byte and in order, every block except the excluded ones
abbrev pub written_of : List Marked → List ℕ
written_of blocks = bytes_of (map (λ (one : Marked). one.block) (filter is_written blocks))

abbrev pub is_line : ℕ → Option ℕ → Bool
is_line line None = false
is_line line (Some other) = line == other

abbrev pub is_of_line : ℕ → Marked → Bool
is_of_line line one = is_line line one.line
