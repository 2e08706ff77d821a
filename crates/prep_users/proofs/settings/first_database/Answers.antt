use Rattle.std.proofs.Common.{◌≡◌, ◌∙◌, None, List, sym, subst, arith}
use Rattle.std.specs.List.{All}
use Rattle.std.proofs.lemmas.List.{take_all}
use Rattle.std.proofs.lemmas.List.Elements.{All-more}
use Rattle.prep_coturn.specs.declared.rows.Row.{Row}
use Rattle.prep_users.specs.Wanting.{database_of}
use Rattle.prep_users.proofs.settings.first_database.Goals as goal

pub loop-row-preserved : goal.loop-row-preserved
loop-row-preserved c =
    All-more (λ row. database_of row.name.now ≡ None) c.args.rows.now c.loop-row.row-index _ c.loop-row-test.true c.loop-row.invariant (sym c.of.ensures ∙ c.in_default.is)

pub returns-clause-none : goal.returns-clause-none
returns-clause-none c =
    subst (λ (rows : List Row). All (λ row. database_of row.name.now ≡ None) rows) (take_all c.loop-row.row-index c.args.rows.now (omega (arith, c.loop-row-test.false))) c.loop-row.invariant
