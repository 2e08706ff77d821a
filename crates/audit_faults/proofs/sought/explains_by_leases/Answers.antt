use Rattle.std.proofs.Common.{◌≡◌, true, false}
use Rattle.audit_keys.specs.KeyFor.{key_for}
use Rattle.audit_faults.proofs.sought.explains_by_leases.Goals as goal

pub returns-then-not-has_needed_leases : goal.returns-then-not-has_needed_leases
returns-then-not-has_needed_leases c =
    (λ f. absurd (let never : false ≡ true = f in cc), λ e. let there = c.has_needed_leases.ensures (key_for c.args.credentials.now) e in let test = c.if-not-has_needed_leases.true in cc)
