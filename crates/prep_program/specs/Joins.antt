-- Captures that are joined, and the bytes that were written.
use Rattle.std.specs.Prelude.{◌≡◌, ℕ, List, [], map, Option}
use Rattle.std.specs.List.{AllByRecursion}
use Rattle.audit_model.specs.Sink.{followed_by}
use Rattle.prep_blocks.specs.declared.block.Block.{Block}
use Rattle.prep_blocks.specs.Read.{bytes_of}
use Rattle.prep_blocks.specs.Splitting.{IsWhole}
use Rattle.prep_join.specs.declared.counts.Counts.{Counts}
use Rattle.prep_join.specs.declared.joiner.Joiner.{Joiner}
use Rattle.prep_join.specs.Rings.{interfaces_of, first_of, joined, written_of}
use Rattle.prep_join.specs.Joining.{GoOn}
use Rattle.prep_join.specs.Joined.{IsJoining, IsDone}

-- of a capture's text so far, the joined blocks were written
pub record SoFar (joiner : Joiner) (done : List (List Block)) (text : List ℕ) (before after : Option (List ℕ)) : Type 0 where
  pub current : List Block
  pub joining : IsJoining joiner done text current
  pub added : after ≡ followed_by before (written_of done current)

-- a whole capture was joined to those that are done
pub record Joins (joiner : Joiner) (done : List (List Block)) (text : List ℕ) (counts : Counts) (before after : Option (List ℕ)) : Type 0 where
  pub current : List Block
  pub ended : IsDone joiner done text current counts
  pub added : after ≡ followed_by before (written_of done current)

-- a whole capture with the interfaces of the first one
abbrev pub IsPart : List (List Block) → List Block → Type 0
IsPart captures blocks = IsWhole (bytes_of blocks) blocks × (interfaces_of blocks ≡ interfaces_of (first_of captures []))

-- the texts are whole captures, each of which continues those before it, and the joined capture was
-- written
pub record JoinsAll (texts : List (List ℕ)) (before after : Option (List ℕ)) : Type 0 where
  pub captures : List (List Block)
  pub spelled : map bytes_of captures ≡ texts
  pub parts : AllByRecursion (λ blocks. IsPart captures blocks) captures
  pub ring : GoOn [] captures
  pub written : after ≡ followed_by before (joined captures)
