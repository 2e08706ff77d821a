use Rattle.std.proofs.Common.{◌≡◌, drop}
use Rattle.std.specs.Prelude.{find}
use Rattle.std.specs.Str.{bytes_eq}
use Rattle.prep_users.specs.Wanting.{database_name, database_of}
use Rattle.prep_users.proofs.settings.Database.of.Given as goal

-- no database before this one has the name
abbrev pub invariant-loop-database : goal.invariant-loop-database
invariant-loop-database l = find (λ database. bytes_eq (database_name database) l.name) (drop l.database-index l.database-items) ≡ database_of l.name
