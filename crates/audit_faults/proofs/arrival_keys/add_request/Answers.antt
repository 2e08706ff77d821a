use Rattle.std.proofs.Common.{ℕ, subst}
use Rattle.std.specs.Prelude.{Contains}
use Rattle.audit_faults.specs.Keyed.{placed_as}
use Rattle.audit_faults.proofs.arrival_keys.add_request.Goals as goal

pub returns-clause-here : goal.returns-clause-here
returns-clause-here c is =
    let s = c.args.sighting.now in
    subst (λ (k : ℕ). Contains c.add_key.new.keyed.items (placed_as k s.id s)) c.exchange_key-key.ensures c.in_ok-add_key.ensures.here
