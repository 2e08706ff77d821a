-- The bytes that a splitter has read, and the blocks that it returned.
use Rattle.std.specs.Prelude.{◌≡◌, ◌≢◌, ℕ, true, false, List, [], ◌∷◌, ◌++◌, ◌≤◌, length, Result, Ok, Err}
use Rattle.audit_pcapng.specs.declared.packet.Packet.{Packet}
use Rattle.audit_pcapng.specs.declared.scope.Scope.{Scope}
use Rattle.audit_pcapng.specs.declared.fault.CaptureFault.{CaptureFault}
use Rattle.audit_pcapng.specs.declared.fault.CaptureFault.TheVariants.{Torn, NoSection, Memory}
use Rattle.audit_pcapng.specs.Sections.{no_blocks}
use Rattle.audit_pcapng.specs.Captures.{IsCut, FirstFault, IsCapture}
use Rattle.prep_blocks.specs.declared.block.Block.{Block}
use Rattle.prep_blocks.specs.declared.splitter.BlockSplitter.{BlockSplitter}
use Rattle.prep_blocks.specs.Read.{AreRead, bytes_of}

-- the text is these blocks and a rest that is less than a block, byte for byte and in order
pub record IsSplit (text : List ℕ) (blocks : List Block) (scope : Scope) (rest : List ℕ) : Type 0 where
  pub spelled : text ≡ bytes_of blocks ++ rest
  pub read : AreRead no_blocks blocks scope
  pub cut : IsCut scope rest

-- the splitter read this text and returned these blocks; it keeps the block that is not yet
-- complete
abbrev pub StandsFor : BlockSplitter → List ℕ → List Block → Type 0
StandsFor splitter text blocks = (splitter.failed ≡ false) × IsSplit text blocks splitter.scope splitter.held.items

abbrev pub IsFailed : BlockSplitter → Type 0
IsFailed splitter = splitter.failed ≡ true

-- a prefix of the piece was read, and completes one more block
pub record Gave (splitter : BlockSplitter) (text : List ℕ) (blocks : List Block) (piece : List ℕ) (given : Block) (rest : List ℕ) : Type 0 where
  pub taken : List ℕ
  pub cut : piece ≡ taken ++ rest
  pub some : 1 ≤ length taken
  pub stands : StandsFor splitter (text ++ taken) (blocks ++ given ∷ [])

-- the text is a whole capture of these blocks
pub record IsWhole (text : List ℕ) (blocks : List Block) : Type 0 where
  pub packets : List Packet
  pub is : IsCapture text packets
  pub scope : Scope
  pub read : AreRead no_blocks blocks scope
  pub spelled : text ≡ bytes_of blocks

-- the text's first fault, which is after these blocks, unless memory ran out
abbrev pub EndsBy : List ℕ → List Block → CaptureFault → Type 0
EndsBy text blocks fault = fault ≢ Memory → (packets : List Packet) × FirstFault text packets fault

-- the result at the end of a text without a fault
abbrev pub Ends : Result (Unit {0}) CaptureFault → List ℕ → List Block → Type 0
Ends (Ok done) text blocks = IsWhole text blocks
Ends (Err Torn) text blocks = text ≢ bytes_of blocks
Ends (Err NoSection) text blocks = text ≡ []
Ends (Err other) text blocks = ⊥
