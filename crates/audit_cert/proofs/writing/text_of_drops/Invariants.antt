use Rattle.std.proofs.Common.{◌≡◌, take}
use Rattle.std.specs.List.{flat_map}
use Rattle.audit_cert.specs.Spelling.{drop_line}
use Rattle.audit_cert.proofs.writing.text_of_drops.Given as goal

-- the lines of the drops so far
abbrev pub invariant-drops : goal.invariant-drops
invariant-drops l = l.text.items ≡ flat_map drop_line (take l.drop-index l.drops)
