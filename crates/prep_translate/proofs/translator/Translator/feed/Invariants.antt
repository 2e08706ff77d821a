use Rattle.std.proofs.Common.{ℕ, ◌+◌, ◌≤◌, List, length}
use Rattle.prep_blocks.specs.declared.block.Block.{Block}
use Rattle.prep_translate.specs.Translating.{IsTranslating, GoesOn}
use Rattle.prep_translate.proofs.translator.Translator.feed.Given as goal

abbrev pub invariant-loop : goal.invariant-loop
invariant-loop l = (text : List ℕ) (blocks : List Block) → IsTranslating l.fn.renaming l.fn.self text blocks →
    GoesOn l.fn.renaming l.self text blocks l.piece l.rest l.fn.out.items l.out.items × (length l.rest + l.counter ≤ length l.piece)
