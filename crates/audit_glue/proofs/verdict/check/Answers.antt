use Rattle.audit_keys.specs.KeyFor.{key_for}
use Rattle.audit_sightings.specs.Intake.{taken}
use Rattle.audit_verdict.proofs.Joined.{conforming}
use Rattle.audit_whole.specs.Glued.{glued_steps}
use Rattle.audit_whole.proofs.Grounds.{grounded}
use Rattle.audit_whole.proofs.ToClients.{are_relayed}
use Rattle.audit_glue.proofs.verdict.check.Goals as goal

pub returns-clause-conforming : goal.returns-clause-conforming
returns-clause-conforming c = conforming (taken c.args.intake.now) c.sightings_are_numbered.ensures (key_for c.args.credentials.now) c.args.certificate.now c.in_ok-verdict.verdict c.in_ok-verdict.ensures

pub returns-clause-headline : goal.returns-clause-headline
returns-clause-headline c =
    let taken = taken c.args.intake.now in
    let key = key_for c.args.credentials.now in
    let both = conforming taken c.sightings_are_numbered.ensures key c.args.certificate.now c.in_ok-verdict.verdict c.in_ok-verdict.ensures in
    λ conforms. let k = both.0 conforms in let steps = glued_steps c.args.certificate.now in record { run = k.run; grounded = grounded taken key steps k.run.run.runs; relayed = λ apart. are_relayed taken key apart steps k.run.run.runs }
