use Rattle.std.proofs.Common.{◌≡◌, ◌∙◌, sym, eqb-true, arith}
use Rattle.std.proofs.lemmas.List.{nil_from_length}
use Rattle.prep_users.specs.Wanting.{RefusesIn}
use Rattle.prep_users.proofs.Refusals.{err_is}
use Rattle.prep_users.proofs.reading.wanted_in.Goals as goal

pub returns-in_err-check_databases-clause-refused :
    goal.returns-in_err-check_databases-clause-refused
returns-in_err-check_databases-clause-refused c =
    let len : c.in_ok-secrets.secrets.len ≡ 0 = eqb-true _ _ (sym c.if-not-is_empty.ensures) in
    err_is (RefusesIn c.args.rows.now c.args.realm.now) c.from_residual-in_err-check_databases.result c.in_err-check_databases.field-0.0
    c.from_residual-in_err-check_databases.ensures.1
    (c.in_err-check_databases.ensures.refused c.args.realm.now (sym c.in_ok-secrets.ensures ∙ nil_from_length c.in_ok-secrets.secrets.items (omega (arith, len, c.in_ok-secrets.secrets.ok.0))))
