-- Captures that are translated.
use Rattle.std.specs.Prelude.{◌≡◌, ◌≢◌, ℕ, List, [], ◌∷◌, ◌++◌, All, fold, map, Some, None}
use Rattle.std.specs.List.{concat}
use Rattle.audit_pcapng.specs.declared.packet.Packet.{Packet}
use Rattle.audit_pcapng.specs.declared.fault.CaptureFault.TheVariants as blocks
use Rattle.audit_pcapng.specs.Captures.{FirstFault}
use Rattle.prep_blocks.specs.declared.block.Block.{Block}
use Rattle.prep_blocks.specs.Read.{bytes_of}
use Rattle.prep_blocks.specs.Splitting.{StandsFor, IsWhole}
use Rattle.prep_translate.specs.declared.renaming.Renaming.{Renaming}
use Rattle.prep_translate.specs.declared.translator.Translator.{Translator}
use Rattle.prep_translate.specs.declared.tally.Tally.{Tally}
use Rattle.prep_translate.specs.declared.fault.TranslateFault.{TranslateFault}
use Rattle.prep_translate.specs.declared.fault.TranslateFault.TheVariants as faults
use Rattle.prep_translate.specs.declared.fault.Untranslatable.{Untranslatable}
use Rattle.prep_translate.specs.Frames.{moved_in, written_of, fault_in}
use Rattle.prep_translate.specs.Tallied.{no_tally, tallied}

-- the output for blocks: each is translated separately, in order
abbrev pub translated : Renaming → List Block → List ℕ
translated renaming blocks = concat (map (written_of renaming) blocks)

-- the counts of their translations
abbrev pub tally_of : Renaming → List Block → Tally
tally_of renaming blocks = fold (λ (tally : Tally) (b : Block). tallied tally (moved_in renaming b)) no_tally blocks

-- no block is refused
abbrev pub AreFit : Renaming → List Block → Type 0
AreFit renaming blocks = All (λ (b : Block). fault_in renaming b ≡ None) blocks

-- after this text of a capture, which has these complete blocks
pub record IsTranslating (renaming : Renaming) (translator : Translator) (text : List ℕ) (blocks : List Block) : Type 0 where
  pub splits : StandsFor translator.splitter text blocks
  pub fit : AreFit renaming blocks
  pub tally : translator.tally ≡ tally_of renaming blocks

-- the piece was read up to the rest, and the blocks that are complete now were added translated
pub record GoesOn (renaming : Renaming) (translator : Translator) (text : List ℕ) (blocks : List Block) (piece rest before after : List ℕ) : Type 0 where
  pub taken : List ℕ
  pub more : List Block
  pub cut : piece ≡ taken ++ rest
  pub translating : IsTranslating renaming translator (text ++ taken) (blocks ++ more)
  pub added : after ≡ before ++ translated renaming more

-- a block of the text is refused
pub record Misfit (renaming : Renaming) (why : Untranslatable) (text : List ℕ) (blocks : List Block) : Type 0 where
  pub more : List Block
  pub block : Block
  pub rest : List ℕ
  pub spelled : text ≡ bytes_of ((blocks ++ more) ++ block ∷ []) ++ rest
  pub refused : fault_in renaming block ≡ Some why

-- the text's first fault, or a block's
abbrev pub IsRefused : Renaming → TranslateFault → List ℕ → List Block → Type 0
IsRefused renaming (faults.Capture fault) text bs = fault ≢ blocks.Memory → (packets : List Packet) × FirstFault text packets fault
IsRefused renaming (faults.Datagram why) text bs = Misfit renaming why text bs

-- the capture was whole
pub record IsDone (renaming : Renaming) (text : List ℕ) (blocks : List Block) (tally : Tally) : Type 0 where
  pub whole : IsWhole text blocks
  pub fit : AreFit renaming blocks
  pub tally_is : tally ≡ tally_of renaming blocks

-- the text ended too early
abbrev pub IsUndone : TranslateFault → List ℕ → List Block → Type 0
IsUndone (faults.Capture blocks.Torn) text bs = text ≢ bytes_of bs
IsUndone (faults.Capture blocks.NoSection) text bs = text ≡ []
IsUndone other text bs = ⊥
