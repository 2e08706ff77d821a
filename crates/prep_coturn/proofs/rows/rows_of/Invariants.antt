use Rattle.std.proofs.Common.{◌≡◌, ◌≤◌, ◌+◌, ◌++◌, length, map}
use Rattle.prep_coturn.specs.Rows.{now_of, lines_in, settings_from, settings_of}
use Rattle.prep_coturn.proofs.rows.rows_of.Given as goal

abbrev pub invariant-lines : goal.invariant-lines
invariant-lines l = (map now_of l.rows.items ++ settings_from l.line (lines_in l.rest) ≡ settings_of l.text) × (l.line + length l.rest ≤ length l.text + 1)

abbrev pub decreases-lines : goal.decreases-lines
decreases-lines l = length l.rest
