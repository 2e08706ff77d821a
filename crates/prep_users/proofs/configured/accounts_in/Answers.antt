use Rattle.std.proofs.Common.{◌≡◌, ◌⊎◌}
use Rattle.std.specs.Prelude.{Any}
use Rattle.prep_users.specs.Configured.{Refuses}
use Rattle.prep_users.specs.declared.fault.ConfiguredFault.TheVariants.{Memory}
use Rattle.prep_users.proofs.Refusals.{err_is, or_any}
use Rattle.prep_users.proofs.configured.accounts_in.Goals as goal

pub returns-in_err-push_user-clause-refused : goal.returns-in_err-push_user-clause-refused
returns-in_err-push_user-clause-refused c =
    let fault = c.in_err-push_user.field-0.0 in
    err_is (λ fault. fault ≡ Memory ⊎ Any (Refuses fault c.args.realm.now) c.args.rows.now) c.from_residual.result fault c.from_residual.ensures.1
    (or_any (Refuses fault c.args.realm.now) c.args.rows.now c.loop-row.row-index _ c.loop-row-test.true c.in_err-push_user.ensures.refused)
