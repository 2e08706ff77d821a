use Rattle.std.proofs.Common.{◌≡◌, false, length}
use Rattle.audit_text.specs.Lines.{has_lf}
use Rattle.audit_text.specs.Reading.{SoFar, within, with_more}
use Rattle.audit_text.specs.Readers.{Stands}
use Rattle.audit_text.proofs.text_reader.TextReader.take_in.Given as goal

-- what is left says behind what is said what the piece says behind what was said, and what is held has no LF
abbrev pub invariant-lines : goal.invariant-lines
invariant-lines g l = record {
  same : (before : SoFar g.L.Lines.said) → Stands g.L.Lines.says l.initial.self before →
      (now : SoFar g.L.Lines.said) × Stands g.L.Lines.says l.self now × (with_more (within g.L.Lines.overlong g.L.Lines.after) now l.rest ≡ with_more (within g.L.Lines.overlong g.L.Lines.after) before l.piece);
  unbroken : has_lf l.self.rest ≡ false;
}

abbrev pub decreases-lines : goal.decreases-lines
decreases-lines g l = length l.rest
