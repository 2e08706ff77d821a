use Rattle.std.proofs.Common.{◌≡◌, None, take}
use Rattle.std.specs.List.{All}
use Rattle.prep_users.specs.Wanting.{database_of}
use Rattle.prep_users.proofs.settings.first_database.Given as goal

abbrev pub invariant-loop-row : goal.invariant-loop-row
invariant-loop-row l = All (λ row. database_of row.name.now ≡ None) (take l.row-index l.rows)
