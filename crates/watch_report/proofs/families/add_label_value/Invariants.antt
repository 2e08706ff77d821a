use Rattle.std.proofs.Common.{◌≡◌, ◌++◌, drop}
use Rattle.watch_report.specs.Exposition.{label_text}
use Rattle.watch_report.proofs.families.add_label_value.Given as goal

-- the bytes so far and those to come are all
abbrev pub invariant-bytes : goal.invariant-bytes
invariant-bytes l = l.text.items ++ label_text (drop l.byte-index l.value) ≡ l.fn.text.items ++ label_text l.value
