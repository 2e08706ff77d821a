use Rattle.audit_keys.specs.KeyFor.{key_for}
use Rattle.audit_sightings.specs.Intake.{taken}
use Rattle.audit_watch.proofs.Watching.{follows_on}
use Rattle.audit_watch.proofs.turn.advanced.Goals as goal

pub returns : goal.returns
returns c =
    let of = taken c.args.intake.now in
    let keys = key_for c.args.credentials.now in
    follows_on of keys c.args.machine.now c.apply.new.machine c.forget.new.machine c.in_ok-apply.ensures (c.forget.ensures of keys)
