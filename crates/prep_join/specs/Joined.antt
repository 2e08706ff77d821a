-- The input and the output of a joiner.
use Rattle.std.specs.Prelude.{◌≡◌, ◌≢◌, ℕ, List, [], ◌∷◌, ◌++◌}
use Rattle.audit_pcapng.specs.declared.packet.Packet.{Packet}
use Rattle.audit_pcapng.specs.declared.fault.CaptureFault.TheVariants as blocks
use Rattle.audit_pcapng.specs.Captures.{FirstFault}
use Rattle.prep_blocks.specs.declared.block.Block.{Block}
use Rattle.prep_blocks.specs.Read.{bytes_of}
use Rattle.prep_blocks.specs.Splitting.{StandsFor, IsWhole}
use Rattle.prep_join.specs.declared.joiner.Joiner.{Joiner}
use Rattle.prep_join.specs.declared.counts.Counts.{Counts}
use Rattle.prep_join.specs.declared.fault.JoinFault.{JoinFault}
use Rattle.prep_join.specs.declared.fault.JoinFault.TheVariants as faults
use Rattle.prep_join.specs.Rings.{written_of, interfaces_of, first_of}
use Rattle.prep_join.specs.Counted.{counts_of}
use Rattle.prep_join.specs.Joining.{IsAt, AllFit, Refuses}

-- after captures that are done, and this text of the present one, which has these complete blocks,
-- each of which fits
pub record IsJoining (joiner : Joiner) (done : List (List Block)) (text : List ℕ) (current : List Block) : Type 0 where
  pub splits : StandsFor joiner.splitter text current
  pub at : IsAt joiner.ring done current
  pub counts : joiner.counts ≡ counts_of current
  pub fits : AllFit done [] current

-- the piece was read up to the rest, and the output for the blocks that are complete now was added
pub record GoesOn (joiner : Joiner) (done : List (List Block)) (text : List ℕ) (current : List Block) (piece rest before after : List ℕ) : Type 0 where
  pub taken : List ℕ
  pub more : List Block
  pub cut : piece ≡ taken ++ rest
  pub joining : IsJoining joiner done (text ++ taken) (current ++ more)
  pub added : after ≡ before ++ written_of done more

-- a block of the text doesn't continue those before it
pub record Misfits (fault : JoinFault) (done : List (List Block)) (text : List ℕ) (current : List Block) : Type 0 where
  pub more : List Block
  pub block : Block
  pub rest : List ℕ
  pub spelled : text ≡ bytes_of ((current ++ more) ++ block ∷ []) ++ rest
  pub refused : Refuses fault done (current ++ more) block

-- the text's first fault, or a block's
abbrev pub IsRefused : JoinFault → List (List Block) → List ℕ → List Block → Type 0
IsRefused (faults.Capture fault) done text current = fault ≢ blocks.Memory → (packets : List Packet) × FirstFault text packets fault
IsRefused faults.TwoSections done text current = Misfits faults.TwoSections done text current
IsRefused faults.SectionLength done text current = Misfits faults.SectionLength done text current
IsRefused faults.Order done text current = Misfits faults.Order done text current
IsRefused faults.LateInterface done text current = Misfits faults.LateInterface done text current
IsRefused faults.Interfaces done text current = Misfits faults.Interfaces done text current
IsRefused (faults.Early iface) done text current = Misfits (faults.Early iface) done text current

-- the capture was a whole one that continues those before, and had all interfaces of the first
pub record IsDone (joiner : Joiner) (done : List (List Block)) (text : List ℕ) (current : List Block) (counts : Counts) : Type 0 where
  pub whole : IsWhole text current
  pub fits : AllFit done [] current
  pub same : interfaces_of current ≡ interfaces_of (first_of done current)
  pub joining : IsJoining joiner (done ++ current ∷ []) [] []
  pub counted : counts ≡ counts_of current

-- the capture ended too early, or lacked interfaces
abbrev pub IsUndone : JoinFault → List (List Block) → List ℕ → List Block → Type 0
IsUndone (faults.Capture blocks.Torn) done text current = text ≢ bytes_of current
IsUndone (faults.Capture blocks.NoSection) done text current = text ≡ []
IsUndone faults.Interfaces done text current = interfaces_of current ≢ interfaces_of (first_of done current)
IsUndone other done text current = ⊥
