use Rattle.std.proofs.Common.{◌∙◌, ℕ, List, sym, ap}
use Rattle.std.specs.Str.{bytes_eq}
use Rattle.prep_users.specs.Wanting.{database_name}
use Rattle.prep_users.proofs.Finding.{find_more}
use Rattle.prep_users.proofs.settings.Database.of.Goals as goal

pub loop-database-preserved : goal.loop-database-preserved
loop-database-preserved c =
    find_more (λ database. bytes_eq (database_name database) c.args.name.now) _ c.loop-database.database-index _ c.loop-database-test.true
    (ap (λ (l : List ℕ). bytes_eq l c.args.name.now) (sym (c.as_bytes.ensures.value ∙ c.name.ensures)) ∙ sym c.eq.ensures ∙ c.if-eq.false)
    ∙ c.loop-database.invariant
