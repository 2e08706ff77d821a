use Rattle.std.proofs.Common.{◌≡◌, None, take}
use Rattle.std.specs.List.{All}
use Rattle.prep_users.specs.Wanting.{no_users_name, switched_on}
use Rattle.prep_users.proofs.reading.check_users.Given as goal

abbrev pub invariant-loop-setting : goal.invariant-loop-setting
invariant-loop-setting l = All (λ setting. switched_on (no_users_name setting) l.rows ≡ None) (take l.setting-index l.setting-items)
