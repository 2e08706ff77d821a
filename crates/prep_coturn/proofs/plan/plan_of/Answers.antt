use Rattle.std.proofs.Common.{◌≡◌, ℕ, List, ap, ◌∙◌}
use Rattle.std.proofs.lemmas.Result.{err_from_is_err_and}
use Rattle.prep_coturn.specs.declared.conf.Conf.{Conf}
use Rattle.prep_coturn.specs.declared.plan.Options.{Options}
use Rattle.prep_coturn.specs.declared.fault.ConfFault.{ConfFault}
use Rattle.prep_coturn.specs.declared.fault.ConfFault.TheVariants as faults
use Rattle.prep_coturn.specs.Plans.{IsRefused, IsAddressFault, relaying_of, with_options}
use Rattle.prep_coturn.proofs.plan.plan_of.Goals as goal

address_fault : (fault : ConfFault) (conf : Conf) (options : Options) → IsAddressFault fault (relaying_of conf options) conf.external options.is_translated → IsRefused fault conf options
address_fault (faults.NotTranslated line renamed) conf options m = m
address_fault (faults.OneForMany line count) conf options m = m
address_fault faults.Memory conf options m = tt
address_fault other conf options m = absurd m

pub returns-in_err-check_external-clause-err : goal.returns-in_err-check_external-clause-err
returns-in_err-check_external-clause-err c =
    let p = err_from_is_err_and c.from_residual-in_err-check_external.result c.from_residual-in_err-check_external.ensures.1 in
    let all : c.deref.result.now ≡ relaying_of c.args.conf.now c.args.options.now = c.deref.ensures.value ∙ c.in_ok-relaying.ensures ∙ ap (λ (said : List ℕ). with_options said c.args.options.now.relaying.now) c.as_slice-2.ensures in
    rw (p.1, p.2) (address_fault c.in_err-check_external.field-0.0 c.args.conf.now c.args.options.now (rw all at c.in_err-check_external.ensures.err))
