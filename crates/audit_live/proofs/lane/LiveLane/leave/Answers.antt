use Rattle.std.proofs.Common.{sym, ap, ◌∙◌}
use Rattle.std.specs.Prelude.{option_copied}
use Rattle.audit_keys.specs.KeyFor.{key_for}
use Rattle.audit_sightings.specs.Intake.{taken}
use Rattle.audit_live.proofs.Meanings.{departure, goes_by, stops_by}
use Rattle.audit_live.proofs.lane.LiveLane.leave.Goals as goal

pub returns-clause-goes_on : goal.returns-clause-goes_on
returns-clause-goes_on c =
    let there = sym c.sighting.ensures ∙ ap option_copied c.unwrap-sighting.ensures in
    let m = departure (taken c.args.intake.now) (key_for c.args.credentials.now) c.args.self.now.number c.args.key c.args.sight c.unwrap-sighting.result.now there in
    goes_by (taken c.args.intake.now) (key_for c.args.credentials.now) c.args.self.now.number c.args.self.now.steps _ c.args.self.now.state c.policy.result.now c.policy.ensures m
    c.step.new.self c.step.result c.step.ensures.right c.step.ensures.after

pub returns-clause-stops : goal.returns-clause-stops
returns-clause-stops c =
    let there = sym c.sighting.ensures ∙ ap option_copied c.unwrap-sighting.ensures in
    let m = departure (taken c.args.intake.now) (key_for c.args.credentials.now) c.args.self.now.number c.args.key c.args.sight c.unwrap-sighting.result.now there in
    stops_by (taken c.args.intake.now) (key_for c.args.credentials.now) c.args.self.now.number c.args.self.now.steps _ c.args.self.now.state c.policy.result.now c.policy.ensures m
    c.step.result c.step.ensures.shows
