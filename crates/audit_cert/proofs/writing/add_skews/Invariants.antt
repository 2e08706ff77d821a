use Rattle.std.proofs.Common.{◌≡◌, ◌++◌, take}
use Rattle.std.specs.List.{flat_map}
use Rattle.audit_cert.specs.Spelling.{skew_line}
use Rattle.audit_cert.proofs.writing.add_skews.Given as goal

-- the lines so far were added
abbrev pub invariant-skews : goal.invariant-skews
invariant-skews l = l.text.items ≡ l.fn.text.items ++ flat_map skew_line (take l.skew-index l.skews)
