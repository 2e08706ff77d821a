-- A capture that comes in pieces, and the bytes that are written of it.
use Rattle.std.specs.Prelude.{◌≡◌, ◌≢◌, ℕ, List, [], ◌∷◌, ◌++◌}
use Rattle.audit_pcapng.specs.declared.packet.Packet.{Packet}
use Rattle.audit_pcapng.specs.declared.fault.CaptureFault.TheVariants as blocks
use Rattle.audit_pcapng.specs.Captures.{FirstFault}
use Rattle.prep_blocks.specs.declared.block.Block.{Block}
use Rattle.prep_blocks.specs.Read.{bytes_of}
use Rattle.prep_blocks.specs.Splitting.{StandsFor, IsWhole}
use Rattle.prep_cut.specs.declared.cutter.Cutter.{Cutter}
use Rattle.prep_cut.specs.declared.cutter.WasCut.{WasCut}
use Rattle.prep_cut.specs.declared.fault.CutFault.{CutFault}
use Rattle.prep_cut.specs.declared.fault.CutFault.TheVariants as faults
use Rattle.prep_cut.specs.declared.plan.Plan.{Plan}
use Rattle.prep_cut.specs.declared.plan.Proposal.{Proposal}
use Rattle.prep_cut.specs.Marks.{Marked, marked, proposals_behind, written_of}
use Rattle.prep_cut.specs.Marking.{IsAt, AreTallies, totals_of, RefusesBlock}

-- after this text of a capture, which has these complete blocks, and after the blocks of the
-- earlier captures
pub record IsCutting (cutter : Cutter) (plan : Plan) (proposals : List Proposal) (earlier : List Marked) (text : List ℕ) (current : List Block) : Type 0 where
  pub splits : StandsFor cutter.splitter text current
  pub at : IsAt cutter.marker plan proposals earlier current

-- the piece was read up to the rest, and the written bytes of the blocks that are complete now were
-- added
pub record GoesOn (cutter : Cutter) (plan : Plan) (proposals : List Proposal) (earlier : List Marked) (text : List ℕ) (current : List Block) (piece rest before after : List ℕ) : Type 0 where
  pub taken : List ℕ
  pub more : List Block
  pub cut : piece ≡ taken ++ rest
  pub cutting : IsCutting cutter plan proposals earlier (text ++ taken) (current ++ more)
  pub added : after ≡ before ++ written_of (marked plan (proposals_behind proposals current) more)

-- a block of the text is refused
pub record Misfits (fault : CutFault) (text : List ℕ) (current : List Block) : Type 0 where
  pub more : List Block
  pub block : Block
  pub rest : List ℕ
  pub spelled : text ≡ bytes_of ((current ++ more) ++ block ∷ []) ++ rest
  pub refused : RefusesBlock fault block

-- the text's first fault, or a block's
abbrev pub IsRefused : CutFault → List ℕ → List Block → Type 0
IsRefused (faults.Capture fault) text current = fault ≢ blocks.Memory → (packets : List Packet) × FirstFault text packets fault
IsRefused faults.SectionLength text current = Misfits faults.SectionLength text current

-- the text is a whole capture of these blocks; its counts, and the tallies with those of the
-- earlier captures
pub record IsCut (cut : WasCut) (plan : Plan) (proposals : List Proposal) (earlier : List Marked) (text : List ℕ) (current : List Block) : Type 0 where
  pub whole : IsWhole text current
  pub totals : cut.totals ≡ totals_of plan (marked plan proposals current)
  pub tallies : AreTallies plan (earlier ++ marked plan proposals current) cut.tallies

-- the text ended too early
abbrev pub IsUndone : CutFault → List ℕ → List Block → Type 0
IsUndone (faults.Capture blocks.Torn) text current = text ≢ bytes_of current
IsUndone (faults.Capture blocks.NoSection) text current = text ≡ []
IsUndone other text current = ⊥
