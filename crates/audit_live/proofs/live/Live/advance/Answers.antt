use Rattle.std.proofs.Common.{Option, Some, sym, subst}
use Rattle.std.specs.Prelude.{IfNone}
use Rattle.audit_keys.specs.KeyFor.{key_for}
use Rattle.audit_model.specs.declared.verdict.Breach.{Breach}
use Rattle.audit_prefix.specs.Live.{MayAdvance, Shows}
use Rattle.audit_prefix.specs.Breaches.{LiveBreach}
use Rattle.audit_prefix.proofs.Living.{front as front_of_run}
use Rattle.audit_sightings.specs.Intake.{taken}
use Rattle.audit_live.specs.Audit.{Audit}
use Rattle.audit_live.specs.Knows.{Knows, stands_for}
use Rattle.audit_live.specs.Refusals.{standing_of}
use Rattle.audit_live.proofs.live.Live.advance.Goals as goal

pub returns-in-Ok-None-clause-prefix : goal.returns-in-Ok-None-clause-prefix
returns-in-Ok-None-clause-prefix c =
    let may = subst (λ (a : Audit). MayAdvance (standing_of a) c.args.horizon c.args.extension) (sym c.self.view_is) c.in-Ok.ensures.may.1 in
    let knows = subst (λ (o : Option Breach). IfNone o (Knows (taken c.self.inside.intake) (key_for c.self.inside.credentials) (Some c.args.horizon) c.take.new.self)) c.in-Ok-None.field-0-is
    (c.in-Ok-None.ensures.knows c.args.horizon may) in
    front_of_run (key_for c.self.inside.credentials) (stands_for (taken c.self.inside.intake) c.take.new.self (Some c.args.horizon)) knows.numbered knows.going

pub returns-in-Ok-Some-clause-shows : goal.returns-in-Ok-Some-clause-shows
returns-in-Ok-Some-clause-shows c =
    let may = subst (λ (a : Audit). MayAdvance (standing_of a) c.args.horizon c.args.extension) (sym c.self.view_is) c.in-Ok.ensures.may.1 in
    subst (λ (a : Audit). Shows (key_for a.credentials) (standing_of a) c.args.extension (Some c.in-Ok-Some.breach)) c.self.view_is
    (record {
      certificate = c.take.new.self.placing.certificate;
      extends = c.in-Ok-Some.ensures.takes_extension.extends;
      reports = subst (LiveBreach (taken c.self.inside.intake) (key_for c.self.inside.credentials) c.take.new.self.placing.certificate) c.in-Ok-Some.field-0-is (c.in-Ok-Some.ensures.shows c.args.horizon may);
    })

pub returns-in-Ok-Some-clause-broken : goal.returns-in-Ok-Some-clause-broken
returns-in-Ok-Some-clause-broken c =
    let may = subst (λ (a : Audit). MayAdvance (standing_of a) c.args.horizon c.args.extension) (sym c.self.view_is) c.in-Ok.ensures.may.1 in
    subst (λ (a : Audit). LiveBreach (taken a.intake) (key_for a.credentials) c.take.new.self.placing.certificate (Some c.in-Ok-Some.breach)) c.self.view_is
    (subst (LiveBreach (taken c.self.inside.intake) (key_for c.self.inside.credentials) c.take.new.self.placing.certificate) c.in-Ok-Some.field-0-is (c.in-Ok-Some.ensures.shows c.args.horizon may))
