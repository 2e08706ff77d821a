use Rattle.std.proofs.Common.{◌≡◌, take}
use Rattle.std.specs.List.{flat_map}
use Rattle.prep_users.specs.Configured.{accounts_of}
use Rattle.prep_users.proofs.configured.accounts_in.Given as goal

abbrev pub invariant-loop-row : goal.invariant-loop-row
invariant-loop-row l = l.accounts.items ≡ flat_map (accounts_of l.realm) (take l.row-index l.rows)
