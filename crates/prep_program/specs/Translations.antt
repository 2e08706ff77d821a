-- Captures that are translated, and the bytes that were written.
use Rattle.std.specs.Prelude.{◌≡◌, ℕ, List, Option}
use Rattle.audit_model.specs.Sink.{followed_by}
use Rattle.prep_blocks.specs.declared.block.Block.{Block}
use Rattle.prep_translate.specs.declared.renaming.Renaming.{Renaming}
use Rattle.prep_translate.specs.declared.translator.Translator.{Translator}
use Rattle.prep_translate.specs.declared.tally.Tally.{Tally}
use Rattle.prep_translate.specs.Translating.{translated, IsDone, IsTranslating}

-- of a capture's text so far, the translated blocks were written
pub record TranslatesSoFar (renaming : Renaming) (translator : Translator) (text : List ℕ) (before after : Option (List ℕ)) : Type 0 where
  pub blocks : List Block
  pub translating : IsTranslating renaming translator text blocks
  pub added : after ≡ followed_by before (translated renaming blocks)

-- the text is a whole capture of blocks that are not refused, and each was written translated, in
-- order
pub record Translates (renaming : Renaming) (text : List ℕ) (tally : Tally) (before after : Option (List ℕ)) : Type 0 where
  pub blocks : List Block
  pub ended : IsDone renaming text blocks tally
  pub added : after ≡ followed_by before (translated renaming blocks)
