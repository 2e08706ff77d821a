-- Captures that are reassembled.
use Rattle.std.specs.Prelude.{◌≡◌, ◌≢◌, ℕ, ◌+◌, ◌<◌, ◌≤◌, Bool, true, false, List, [], ◌∷◌, ◌++◌, length, fold, Option, Some, None, if◌then◌else◌}
use Rattle.prep_blocks.specs.declared.block.Block.{Block}
use Rattle.prep_blocks.specs.Splitting.{StandsFor, IsWhole}
use Rattle.prep_fragments.specs.declared.fragment.Key.{Key}
use Rattle.prep_fragments.specs.declared.fragment.Fragment.{Fragment}
use Rattle.prep_fragments.specs.declared.begun.Begun.{Begun}
use Rattle.prep_fragments.specs.declared.opens.Opens.{Opens}
use Rattle.prep_fragments.specs.declared.reassembler.Reassembler.{Reassembler}
use Rattle.prep_fragments.specs.Parts.{part_of, frame_of, is_same}
use Rattle.prep_fragments.specs.Wholes.{datas_of, whole_of}
use Rattle.prep_fragments.specs.Opens.{open_at, stamp_of, first_stamp, IsBegun}

abbrev pub pended_by : Key → List Block → Block → Option Fragment → List Block
pended_by key held block None = held
pended_by key held block (Some part) = if is_same part.key key then (if part.has_more then held ++ block ∷ [] else []) else held

-- one more block: a fragment of the datagram is added, and the last one ends the datagram
abbrev pub pended : Key → List Block → Block → List Block
pended key held block = pended_by key held block (part_of block)

-- the fragments of a datagram whose last one hasn't come yet
abbrev pub pending : Key → List Block → List Block
pending key blocks = fold (pended key) [] blocks

abbrev pub out_by : List Block → Block → Option Fragment → List ℕ
out_by earlier block None = block.bytes
out_by earlier block (Some part) = if part.has_more then [] else whole_of (pending part.key earlier) block

-- the output for a block after earlier ones: the whole block; of a fragment nothing, except the
-- whole datagram for the last one
abbrev pub out_of : List Block → Block → List ℕ
out_of earlier block = out_by earlier block (part_of block)

-- the output for blocks after earlier ones
abbrev pub reassembled : List Block → List Block → List ℕ
reassembled earlier [] = []
reassembled earlier (block ∷ others) = out_of earlier block ++ reassembled (earlier ++ block ∷ []) others

-- A fragment fits: its frame has all of its data, which begins where the datagram's fragments
-- before it end, less than 30 seconds after the first.
pub record FitsPart (earlier : List Block) (block : Block) (part : Fragment) : Type 0 where
  pub some : part.begin < part.end
  pub captured : part.end ≤ length (frame_of block)
  pub follows : part.offset ≡ length (datas_of (pending part.key earlier))
  pub timely : (first : Block) (others : List Block) → pending part.key earlier ≡ first ∷ others → stamp_of block < stamp_of first + 30000000000
  pub more : part.has_more ≡ false → pending part.key earlier ≢ []

abbrev pub FitsBlock : List Block → Block → Type 0
FitsBlock earlier block = (part : Fragment) → part_of block ≡ Some part → FitsPart earlier block part

-- each block fits after those before it
abbrev pub AreFit : List Block → List Block → Type 0
AreFit earlier [] = Unit {0}
AreFit earlier (block ∷ others) = FitsBlock earlier block × AreFit (earlier ++ block ∷ []) others

abbrev pub IsHeld : Option Begun → List Block → Type 0
IsHeld None held = held ≡ []
IsHeld (Some begun) held = IsBegun begun × (begun.fragments ≡ held)

-- the entry of each datagram is its pending fragments
abbrev pub Holds : Opens → List Block → Type 0
Holds opens blocks = (key : Key) → IsHeld (open_at opens key) (pending key blocks)

-- after this text of a capture, which has these complete blocks
pub record IsReassembling (reassembler : Reassembler) (text : List ℕ) (blocks : List Block) : Type 0 where
  pub splits : StandsFor reassembler.splitter text blocks
  pub holds : Holds reassembler.opens blocks
  pub fit : AreFit [] blocks

-- the piece was read up to the rest, and the output for the blocks that are complete now was added
pub record GoesOn (reassembler : Reassembler) (text : List ℕ) (blocks : List Block) (piece rest before after : List ℕ) : Type 0 where
  pub taken : List ℕ
  pub more : List Block
  pub cut : piece ≡ taken ++ rest
  pub reassembling : IsReassembling reassembler (text ++ taken) (blocks ++ more)
  pub added : after ≡ before ++ reassembled blocks more

-- the capture was whole, and no datagram has missing fragments
pub record IsDone (text : List ℕ) (blocks : List Block) : Type 0 where
  pub whole : IsWhole text blocks
  pub fit : AreFit [] blocks
  pub complete : (key : Key) → pending key blocks ≡ []
