use Rattle.std.proofs.Common.{rules}
use Rattle.audit_keys.specs.KeyFor.{key_for}
use Rattle.audit_sightings.specs.Intake.{taken}
use Rattle.audit_pool.specs.Full.{IsFullOf}
use Rattle.audit_pool.proofs.Filled.{is_verdict}
use Rattle.audit_pool.proofs.pass.verdict_of_parts.Goals as goal

pub returns-clause-verdict : goal.returns-clause-verdict
returns-clause-verdict g c =
    let t = taken c.args.intake.now in
    let key = key_for c.args.credentials.now in
    let closed = c.in-Ok-filled.closed in
    let full : IsFullOf t key c.args.certificate.now c.args.workers closed.claimants.items closed.seats.items closed.entries.items c.in_ok-verdict-2.verdict = search rules in
    is_verdict t key c.args.certificate.now c.args.workers closed.claimants.items closed.seats.items closed.entries.items c.in_ok-verdict-2.verdict full
