use Rattle.std.proofs.Common.{ℕ, List, ◌∙◌, ap}
use Rattle.audit_faults.specs.ArrivalKeys.{sent_key}
use Rattle.audit_faults.proofs.Seeking.{by_sent}
use Rattle.audit_faults.proofs.departure_keys.key_of_sends.Goals as goal

pub returns : goal.returns
returns c arrival arrives s =
    let departure = c.args.departure.now in
    by_sent c.args.policy.now arrival departure arrives c.sent_key.result (c.sent_key.ensures ∙ ap (λ (b : List ℕ). sent_key departure.to b) c.as_slice.ensures) s
