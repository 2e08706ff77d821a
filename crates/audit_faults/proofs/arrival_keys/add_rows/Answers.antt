use Rattle.std.proofs.Common.{◌≡◌, ℕ, length, subst, arith}
use Rattle.audit_sightings.specs.Intake.{taken}
use Rattle.audit_faults.specs.ArrivalKeys.{IsArrivalBy}
use Rattle.audit_faults.specs.Keyed.{AreKeyedBefore}
use Rattle.audit_faults.proofs.arrival_keys.add_rows.Goals as goal

pub returns : goal.returns
returns c =
    let last : c.interfaces.iface ≡ length (taken c.args.intake.now).interfaces = omega arith in
    subst (λ (n : ℕ). AreKeyedBefore (taken c.args.intake.now) (IsArrivalBy (taken c.args.intake.now).policy) (record { iface = n; index = 0 }) c.interfaces.keyed.items c.interfaces.width) last c.interfaces.invariant
