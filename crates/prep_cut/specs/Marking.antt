-- The counts after the blocks of a capture.
use Rattle.std.specs.Prelude.{◌≡◌, ◌<◌, ◌≤◌, ℕ, ◌^◌, ◌-◌, List, ◌++◌, length, get_or, fold, filter, Option, Some, None}
use Rattle.std.specs.Int.{w64}
use Rattle.audit_pcapng.specs.declared.block_kind.BlockKind.TheVariants as kinds
use Rattle.audit_pcapng.specs.Numbers.{number_at}
use Rattle.prep_blocks.specs.declared.block.Block.{Block}
use Rattle.prep_blocks.specs.declared.block.PacketHead.{PacketHead}
use Rattle.prep_cut.specs.declared.datagram.Datagram.{Datagram}
use Rattle.prep_cut.specs.declared.fault.CutFault.{CutFault}
use Rattle.prep_cut.specs.declared.fault.CutFault.TheVariants as faults
use Rattle.prep_cut.specs.declared.marker.Marker.{Marker}
use Rattle.prep_cut.specs.declared.plan.Plan.{Plan}
use Rattle.prep_cut.specs.declared.plan.Proposal.{Proposal}
use Rattle.prep_cut.specs.declared.tally.Tally.{Tally}
use Rattle.prep_cut.specs.declared.tallies.Tallies.{Tallies}
use Rattle.prep_cut.specs.declared.tally.Totals.{Totals}
use Rattle.prep_cut.specs.Datagrams.{datagram_of_block}
use Rattle.prep_cut.specs.Marks.{Marked, marked, proposals_behind, is_written, is_of_line}
use Rattle.prep_cut.specs.Pairs.{AreCauses}
use Rattle.prep_causes.specs.Groups.{no_group, carried_with}
use Rattle.prep_cut.specs.Unread.{group_at, owing_of}
use Rattle.prep_cut.specs.Tallied.{no_tally, no_totals, tallied_at, tallied_block, totals_with}

abbrev pub tally_more : Plan → Tally → Marked → Tally
tally_more plan tally one = tallied_block tally one.block.packet (datagram_of_block plan.policy one.block)

-- of the packets that a line excludes
abbrev pub tally_at : Plan → ℕ → List Marked → Tally
tally_at plan line blocks = fold (tally_more plan) no_tally (filter (is_of_line line) blocks)

-- Each line's tally is that of the packets that it excludes, and the records under each number are
-- of them. Each group has its packets, and the departures that need an arrival or a carrier are
-- counted.
pub record AreTallies (plan : Plan) (blocks : List Marked) (tallies : Tallies) : Type 0 where
  pub len : length tallies.lines.items ≡ length plan.lines
  pub lines : (line : ℕ) → line < length plan.lines → get_or tallies.lines.items line no_tally ≡ tally_at plan line blocks
  pub causes : AreCauses plan blocks tallies.causes
  pub groups : (number : ℕ) → number < length tallies.groups.groups.items → get_or tallies.groups.groups.items number no_group ≡ group_at plan number blocks
  pub owing : tallies.owing ≡ owing_of plan blocks

-- the departures that unread packets may have carried
abbrev pub carried_of : Tallies → ℕ
carried_of tallies = carried_with 0 tallies.causes.reach tallies.groups.groups.items

abbrev pub totals_more : Plan → Totals → Marked → Totals
totals_more plan totals one = totals_with totals (is_written one) one.block.packet (datagram_of_block plan.policy one.block)

-- the numbers of written and of excluded packets of a capture
abbrev pub totals_of : Plan → List Marked → Totals
totals_of plan blocks = fold (totals_more plan) no_totals blocks

-- a line's tally, with a block that is excluded by a line or by none
abbrev pub tallied_with : Option ℕ → Option PacketHead → Option Datagram → ℕ → Tally → Tally
tallied_with None packet datagram other tally = tally
tallied_with (Some line) packet datagram other tally = tallied_at line packet datagram other tally

-- after these blocks of a capture, and the blocks of the earlier captures
pub record IsAt (marker : Marker) (plan : Plan) (proposals : List Proposal) (earlier : List Marked) (current : List Block) : Type 0 where
  pub plan_is : marker.plan.now ≡ plan
  pub rest : marker.proposals.now ≡ proposals_behind proposals current
  pub totals : marker.totals ≡ totals_of plan (marked plan proposals current)
  pub tallies : AreTallies plan (earlier ++ marked plan proposals current) marker.tallies

-- a section that states no length
abbrev pub IsUnbounded : Block → Type 0
IsUnbounded block = (24 ≤ length block.bytes) × (number_at block.order w64 16 block.bytes ≡ 2 ^ 64 - 1)

-- a section that states its length
abbrev pub RefusesBlock : CutFault → Block → Type 0
RefusesBlock (faults.Capture fault) block = ⊥
RefusesBlock faults.SectionLength block = (block.kind ≡ kinds.Section) × (IsUnbounded block → ⊥)
