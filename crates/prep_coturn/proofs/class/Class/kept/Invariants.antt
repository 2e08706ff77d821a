use Rattle.std.proofs.Common.{◌≡◌, take, ◌+◌}
use Rattle.std.specs.List.{suffix_len}
use Rattle.prep_coturn.specs.Rows.{is_of}
use Rattle.prep_coturn.proofs.class.Class.kept.Given as goal

abbrev pub invariant-loop-at : goal.invariant-loop-at
invariant-loop-at l = l.kept + suffix_len (is_of l.self) (take l.at l.text) ≡ l.at
