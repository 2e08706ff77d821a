-- The counts of a line of the list.
use Rattle.std.specs.Prelude.{◌≡◌, nat_lt, ◌||◌, ℕ, ◌+◌, min, max, ◌==◌, if◌then◌else◌, List, length, get_or, Bool, true, false, Option, Some, None}
use Rattle.audit_model.specs.declared.sighting.Side.{Side}
use Rattle.audit_model.specs.declared.sighting.Side.TheVariants.{Arrives, Leaves}
use Rattle.prep_blocks.specs.declared.block.PacketHead.{PacketHead}
use Rattle.prep_causes.specs.Groups.{capped}
use Rattle.prep_cut.specs.declared.datagram.Datagram.{Datagram}
use Rattle.prep_cut.specs.declared.tally.Count.{Count}
use Rattle.prep_cut.specs.declared.tally.Tally.{Tally}
use Rattle.prep_cut.specs.declared.tally.Totals.{Totals}

abbrev pub no_count : Count
no_count = record { datagrams = 0; bytes = 0 }

abbrev pub no_tally : Tally
no_tally = record { arrived = no_count; left = no_count; others = 0; first = 18446744073709551615; last = 0 }

abbrev pub counted : Count → ℕ → Count
counted count size = record { datagrams = capped (count.datagrams + 1); bytes = capped (count.bytes + size) }

abbrev pub counted_both : Count → Count → Count
counted_both one other = record { datagrams = capped (one.datagrams + other.datagrams); bytes = capped (one.bytes + other.bytes) }

-- some packet is in it
abbrev pub is_counted : Tally → Bool
is_counted tally = nat_lt 0 tally.arrived.datagrams || (nat_lt 0 tally.left.datagrams || nat_lt 0 tally.others)

abbrev pub tallied_on : Side → Tally → Datagram → Tally
tallied_on Arrives tally datagram = record { arrived = counted tally.arrived datagram.size; left = tally.left; others = tally.others; first = min tally.first datagram.stamp; last = max tally.last datagram.stamp }
tallied_on Leaves tally datagram = record { arrived = tally.arrived; left = counted tally.left datagram.size; others = tally.others; first = min tally.first datagram.stamp; last = max tally.last datagram.stamp }

abbrev pub tallied : Tally → Datagram → Tally
tallied tally datagram = tallied_on datagram.side tally datagram

-- with one more packet that isn't a datagram of the service
abbrev pub tallied_other : Tally → ℕ → Tally
tallied_other tally stamp = record { arrived = tally.arrived; left = tally.left; others = capped (tally.others + 1); first = min tally.first stamp; last = max tally.last stamp }

-- with one more block: its datagram, or else its packet
abbrev pub tallied_block : Tally → Option PacketHead → Option Datagram → Tally
tallied_block tally packet (Some datagram) = tallied tally datagram
tallied_block tally (Some head) None = tallied_other tally head.stamp
tallied_block tally None None = tally

-- a line's tally, with the block if it is of this line
abbrev pub tallied_at : ℕ → Option PacketHead → Option Datagram → ℕ → Tally → Tally
tallied_at line packet datagram other tally = if other == line then tallied_block tally packet datagram else tally

-- this number of lines without a datagram
pub record AreNone (lines : List Tally) (count : ℕ) : Type 0 where
  pub len : length lines ≡ count
  pub none : (line : ℕ) → get_or lines line no_tally ≡ no_tally

abbrev pub no_totals : Totals
no_totals = record { written = 0; left = 0; datagrams = 0 }

-- a datagram with one end in the service
abbrev pub lone : Option Datagram → ℕ
lone None = 0
lone (Some datagram) = if datagram.is_inside then 0 else 1

abbrev pub with_packet : Totals → Bool → Option Datagram → Totals
with_packet totals true datagram = record { written = capped (totals.written + 1); left = totals.left; datagrams = capped (totals.datagrams + lone datagram) }
with_packet totals false datagram = record { written = totals.written; left = capped (totals.left + 1); datagrams = totals.datagrams }

-- with one more block, which is written or not, and has a packet or none
abbrev pub totals_with : Totals → Bool → Option PacketHead → Option Datagram → Totals
totals_with totals written None datagram = totals
totals_with totals written (Some head) datagram = with_packet totals written datagram
