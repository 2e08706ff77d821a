use Rattle.std.proofs.Common.{◌≡◌, None, drop, option_map}
use Rattle.prep_users.specs.Wanting.{last_with}
use Rattle.prep_users.proofs.settings.last_value.Given as goal

-- the value so far with those of what is left is the last one
abbrev pub invariant-loop-row : goal.invariant-loop-row
invariant-loop-row l = last_with l.name (option_map (λ value. value.now) l.value) (drop l.row-index l.rows) ≡ last_with l.name None l.rows
