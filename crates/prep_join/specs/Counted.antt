-- The number of blocks of each kind, saturated at 64 bits.
use Rattle.std.specs.Prelude.{ℕ, ◌+◌, List, fold}
use Rattle.std.specs.Prelude.{min}
use Rattle.audit_pcapng.specs.declared.block_kind.BlockKind.{BlockKind}
use Rattle.audit_pcapng.specs.declared.block_kind.BlockKind.TheVariants as kinds
use Rattle.prep_blocks.specs.declared.block.Block.{Block}
use Rattle.prep_join.specs.declared.counts.Counts.{Counts}

abbrev pub no_counts : Counts
no_counts = record { interfaces = 0; packets = 0; statistics = 0 }

abbrev pub one_more : ℕ → ℕ
one_more n = min (n + 1) 18446744073709551615

abbrev pub counted : Counts → BlockKind → Counts
counted counts kinds.Section = counts
counted counts kinds.Interface = record counts { interfaces = one_more counts.interfaces }
counted counts kinds.Statistics = record counts { statistics = one_more counts.statistics }
counted counts kinds.Packet = record counts { packets = one_more counts.packets }
counted counts kinds.NoStamp = counts
counted counts kinds.Other = counts

-- the numbers for the blocks of a capture
abbrev pub counts_of : List Block → Counts
counts_of blocks = fold (λ (counts : Counts) (b : Block). counted counts b.kind) no_counts blocks
