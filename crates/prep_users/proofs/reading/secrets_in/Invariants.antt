use Rattle.std.proofs.Common.{◌≡◌, take}
use Rattle.std.specs.List.{flat_map}
use Rattle.prep_users.specs.Wanting.{secrets_at}
use Rattle.prep_users.proofs.reading.secrets_in.Given as goal

abbrev pub invariant-loop-row : goal.invariant-loop-row
invariant-loop-row l = l.secrets.items ≡ flat_map secrets_at (take l.row-index l.rows)
