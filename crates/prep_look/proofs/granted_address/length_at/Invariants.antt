use Rattle.std.proofs.Common.{◌≡◌, ◌+◌, drop}
use Rattle.std.specs.List.{prefix_len}
use Rattle.prep_look.specs.PolicyLines.{is_of_ip}
use Rattle.prep_look.proofs.granted_address.length_at.Given as goal

abbrev pub invariant-loop-at : goal.invariant-loop-at
invariant-loop-at l = prefix_len (is_of_ip l.ip) l.granted ≡ l.at + prefix_len (is_of_ip l.ip) (drop l.at l.granted)
