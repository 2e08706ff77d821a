-- Datagrams with missing fragments.
use Rattle.std.specs.Prelude.{◌≡◌, ℕ, ◌+◌, ◌<◌, ◌≤◌, List, [], ◌∷◌, ◌++◌, length, Option, Some, None}
use Rattle.std.specs.BTreeMap.{get}
use Rattle.prep_blocks.specs.declared.block.Block.{Block}
use Rattle.prep_blocks.specs.declared.block.PacketHead.{PacketHead}
use Rattle.prep_fragments.specs.declared.fragment.Key.{Key}
use Rattle.prep_fragments.specs.declared.fragment.Fragment.{Fragment}
use Rattle.prep_fragments.specs.declared.begun.Begun.{Begun}
use Rattle.prep_fragments.specs.declared.opens.Opens.{Opens}
use Rattle.prep_fragments.specs.Parts.{key_cmp, frame_of, data_of}
use Rattle.prep_fragments.specs.Wholes.{datas_of}

-- the fragments of a datagram so far
unfoldable pub open_at : Opens → Key → Option Begun
open_at opens key = get key_cmp opens.opens key

abbrev pub stamp_at : Option PacketHead → ℕ
stamp_at None = 0
stamp_at (Some head) = head.stamp

abbrev pub stamp_of : Block → ℕ
stamp_of block = stamp_at block.packet

-- the stamp of the first
abbrev pub first_stamp : List Block → ℕ
first_stamp [] = 0
first_stamp (first ∷ others) = stamp_of first

-- it has these fragments, at least one, the stamp of the first, and the number of their data bytes
pub record IsBegun (begun : Begun) : Type 0 where
  pub first : Block
  pub others : List Block
  pub some : begun.fragments ≡ first ∷ others
  pub stamp : begun.stamp ≡ stamp_of first
  pub length_is : begun.length ≡ length (datas_of begun.fragments)

-- a datagram with its first fragment
abbrev pub opened : Block → Begun
opened block = record { stamp = stamp_of block; length = length (data_of block); fragments = block ∷ [] }

-- and with one more
abbrev pub extended : Begun → Block → Begun
extended begun block = record { stamp = begun.stamp; length = begun.length + length (data_of block); fragments = begun.fragments ++ block ∷ [] }

abbrev pub IsTimely : ℕ → Option ℕ → Type 0
IsTimely stamp None = Unit {0}
IsTimely stamp (Some first) = stamp < first + 30000000000

-- a fragment's frame has all of its data, which begins at this offset, less than 30 seconds after
-- the first
pub record Fits (block : Block) (part : Fragment) (length_before : ℕ) (first : Option ℕ) : Type 0 where
  pub some : part.begin < part.end
  pub captured : part.end ≤ length (frame_of block)
  pub follows : part.offset ≡ length_before
  pub timely : IsTimely (stamp_of block) first
