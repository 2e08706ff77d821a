use Rattle.std.proofs.Common.{sym, ◌∙◌}
use Rattle.audit_faults.proofs.Fitting.{fit_of_success}
use Rattle.audit_faults.proofs.fits.is_fit.Goals as goal

pub returns-in-Success : goal.returns-in-Success
returns-in-Success c =
    fit_of_success c.args.arrival.now c.args.departure.now c.in-Some-message_in.request c.in-Some.response c.success_fits.result
    (c.in-Some.ensures.0 ∙ c.as_slice.ensures) (c.in-Some-message_in.ensures.0 ∙ c.as_slice-2.ensures) (sym c.in-Success.ensures) c.success_fits.ensures
