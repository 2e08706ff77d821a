use Rattle.audit_keys.specs.KeyFor.{key_for}
use Rattle.audit_sightings.specs.Intake.{taken}
use Rattle.audit_watch.specs.Watch.{Follows, LeadsFrom}
use Rattle.audit_watch.proofs.Watching.{if_usable, leads_on}
use Rattle.audit_watch.proofs.watch.Watch.advance.Goals as goal

pub returns-clause-claim : goal.returns-clause-claim
returns-clause-claim c all first captured claim =
    let of = taken c.args.intake.now in
    let keys = key_for c.args.credentials.now in
    let old = c.args.self.now in
    let new = c.advanced-done.new.machine in
    if_usable c.advanced-done.result (Follows of keys old.machine new) _ (λ follows. leads_on all of keys old captured new (c.has_placed.ensures c.if-not-has_placed.false) first claim follows) c.advanced-done.ensures
