use Rattle.std.proofs.Common.{ℕ, subst}
use Rattle.std.specs.Prelude.{Contains}
use Rattle.audit_faults.specs.Keyed.{placed_as}
use Rattle.audit_faults.specs.Leased.{beginning_key}
use Rattle.audit_faults.proofs.answers.add_allocated.Goals as goal

pub returns-clause-begins : goal.returns-clause-begins
returns-clause-begins c m =
    let s = c.args.sighting.now in
    c.in_ok-add_relayed.ensures.kept (placed_as (beginning_key s.to) s.id s)
    (subst (λ (k : ℕ). Contains c.add_key.new.keyed.items (placed_as k s.id s)) c.beginning_key.ensures c.in_ok-add_key.ensures.here)

pub returns-clause-by_address : goal.returns-clause-by_address
returns-clause-by_address c m relayed named = c.in_ok-add_relayed.ensures.here relayed named
