use Rattle.std.proofs.Common.{sym, ap, ◌∙◌, subst}
use Rattle.std.specs.Prelude.{ℕ, List, Some, None, option_copied}
use Rattle.audit_live.specs.Steps.{IsRowOf}
use Rattle.audit_keys.specs.KeyFor.{key_for}
use Rattle.audit_sightings.specs.Intake.{taken}
use Rattle.audit_live.proofs.Meanings.{act_by, act_by_nobody, goes_by, stops_by}
use Rattle.audit_live.proofs.lane.LiveLane.act.Goals as goal

pub returns-in-Some-clause-goes_on : goal.returns-in-Some-clause-goes_on
returns-in-Some-clause-goes_on c =
    let there = sym c.sighting.ensures ∙ ap option_copied c.unwrap-arrives.ensures in
    let gives_there = sym c.sighting-2.ensures ∙ ap option_copied c.unwrap-leaves.ensures in
    let named = subst (λ (p : List ℕ). IsRowOf (key_for c.args.credentials.now) p (Some c.in-Some.row)) c.as_slice.ensures c.in-Some.ensures in
    let m = act_by (taken c.args.intake.now) (key_for c.args.credentials.now) c.args.self.now.number c.args.key c.args.sight c.args.gives c.unwrap-arrives.result.now c.unwrap-leaves.result.now c.in-Some.row there gives_there named in
    goes_by (taken c.args.intake.now) (key_for c.args.credentials.now) c.args.self.now.number c.args.self.now.steps _ c.args.self.now.state c.policy.result.now c.policy.ensures m
    c.step.new.self c.step.result c.step.ensures.right c.step.ensures.after

pub returns-in-Some-clause-stops : goal.returns-in-Some-clause-stops
returns-in-Some-clause-stops c =
    let there = sym c.sighting.ensures ∙ ap option_copied c.unwrap-arrives.ensures in
    let gives_there = sym c.sighting-2.ensures ∙ ap option_copied c.unwrap-leaves.ensures in
    let named = subst (λ (p : List ℕ). IsRowOf (key_for c.args.credentials.now) p (Some c.in-Some.row)) c.as_slice.ensures c.in-Some.ensures in
    let m = act_by (taken c.args.intake.now) (key_for c.args.credentials.now) c.args.self.now.number c.args.key c.args.sight c.args.gives c.unwrap-arrives.result.now c.unwrap-leaves.result.now c.in-Some.row there gives_there named in
    stops_by (taken c.args.intake.now) (key_for c.args.credentials.now) c.args.self.now.number c.args.self.now.steps _ c.args.self.now.state c.policy.result.now c.policy.ensures m
    c.step.result c.step.ensures.shows

pub returns-in-None-clause-goes_on : goal.returns-in-None-clause-goes_on
returns-in-None-clause-goes_on c =
    let there = sym c.sighting.ensures ∙ ap option_copied c.unwrap-arrives.ensures in
    let gives_there = sym c.sighting-2.ensures ∙ ap option_copied c.unwrap-leaves.ensures in
    let named = subst (λ (p : List ℕ). IsRowOf (key_for c.args.credentials.now) p None) c.as_slice.ensures c.in-None.ensures in
    let m = act_by_nobody (taken c.args.intake.now) (key_for c.args.credentials.now) c.args.self.now.number c.args.key c.args.sight c.args.gives c.unwrap-arrives.result.now c.unwrap-leaves.result.now there gives_there named in
    goes_by (taken c.args.intake.now) (key_for c.args.credentials.now) c.args.self.now.number c.args.self.now.steps _ c.args.self.now.state c.policy-in-None.result.now c.policy-in-None.ensures m
    c.step-in-None.new.self c.step-in-None.result c.step-in-None.ensures.right c.step-in-None.ensures.after

pub returns-in-None-clause-stops : goal.returns-in-None-clause-stops
returns-in-None-clause-stops c =
    let there = sym c.sighting.ensures ∙ ap option_copied c.unwrap-arrives.ensures in
    let gives_there = sym c.sighting-2.ensures ∙ ap option_copied c.unwrap-leaves.ensures in
    let named = subst (λ (p : List ℕ). IsRowOf (key_for c.args.credentials.now) p None) c.as_slice.ensures c.in-None.ensures in
    let m = act_by_nobody (taken c.args.intake.now) (key_for c.args.credentials.now) c.args.self.now.number c.args.key c.args.sight c.args.gives c.unwrap-arrives.result.now c.unwrap-leaves.result.now there gives_there named in
    stops_by (taken c.args.intake.now) (key_for c.args.credentials.now) c.args.self.now.number c.args.self.now.steps _ c.args.self.now.state c.policy-in-None.result.now c.policy-in-None.ensures m
    c.step-in-None.result c.step-in-None.ensures.shows
