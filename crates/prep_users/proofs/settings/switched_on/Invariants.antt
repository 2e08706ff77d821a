use Rattle.std.proofs.Common.{◌≡◌, drop}
use Rattle.prep_users.specs.Wanting.{switched_on, switched_with}
use Rattle.prep_users.proofs.settings.switched_on.Given as goal

-- the switch so far with the lines that are left
abbrev pub invariant-loop-row : goal.invariant-loop-row
invariant-loop-row l = switched_with l.name l.on (drop l.row-index l.rows) ≡ switched_on l.name l.rows
