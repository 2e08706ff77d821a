use Rattle.std.proofs.Common.{◌≡◌, drop, ◌+◌}
use Rattle.std.specs.List.{prefix_len}
use Rattle.prep_coturn.specs.Rows.{is_of}
use Rattle.prep_coturn.proofs.class.Class.front.Given as goal

abbrev pub invariant-loop-at : goal.invariant-loop-at
invariant-loop-at l = prefix_len (is_of l.self) l.text ≡ l.at + prefix_len (is_of l.self) (drop l.at l.text)
