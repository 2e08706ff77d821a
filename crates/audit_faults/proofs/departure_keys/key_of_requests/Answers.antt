use Rattle.std.proofs.Common.{sym, ◌∙◌, subst}
use Rattle.audit_faults.specs.Causes.{IsResponse}
use Rattle.audit_faults.proofs.Seeking.{by_response}
use Rattle.audit_faults.proofs.departure_keys.key_of_requests.Goals as goal

pub returns-in_default : goal.returns-in_default
returns-in_default c arrival arrives r = absurd (c.in_default.ensures (subst IsResponse (sym c.as_slice.ensures) r.response))

pub returns : goal.returns
returns c arrival arrives r =
    by_response c.args.policy.now arrival c.args.departure.now arrives c.exchange_key.result c.in-Some.response (c.in-Some.ensures.0 ∙ c.as_slice.ensures) c.exchange_key.ensures r
