use Rattle.std.proofs.Common.{◌≡◌, ◌∙◌, sym, subst, None}
use Rattle.std.proofs.lemmas.Bool.{true≢false}
use Rattle.audit_prefix.specs.Live.{MayAdvance}
use Rattle.audit_live.specs.declared.fault.LiveFault.TheVariants as faults
use Rattle.audit_live.specs.Audit.{Audit}
use Rattle.audit_live.specs.Refusals.{IsRefusal, standing_of}
use Rattle.audit_live.proofs.Known.{is_none, refused_by_lanes, refused_by_moments, may_come}
use Rattle.audit_live.proofs.live.Live.may_advance.Goals as goal

pub returns-in-Ok-false-clause-refused : goal.returns-in-Ok-false-clause-refused
returns-in-Ok-false-clause-refused c =
    let none = is_none c.self.inside.ended (sym c.is_some.ensures ∙ c.if-is_some.false) in
    let known = c.self.invariant none in
    let audit : Audit = record { intake = c.self.inside.intake; credentials = c.self.inside.credentials; front = c.self.inside.front; last = c.self.inside.last; ended = c.self.inside.ended } in
    subst (λ (a : Audit). IsRefusal a c.args.horizon c.args.extension.now faults.Lane) c.self.view_is
    (refused_by_lanes audit c.args.horizon c.args.extension.now none
    (λ not_later. true≢false (sym (c.is_not_later.ensures.1 not_later) ∙ c.if-is_not_later.false))
    (λ fits. true≢false (sym ((c.in-Ok-false.ensures known.before known.keeps).1 fits) ∙ c.in-Ok-false.field-0-test)))

pub returns-then-is_in_turn-clause-may : goal.returns-then-is_in_turn-clause-may
returns-then-is_in_turn-clause-may c =
    let none = is_none c.self.inside.ended (sym c.is_some.ensures ∙ c.if-is_some.false) in
    let known = c.self.invariant none in
    let audit : Audit = record { intake = c.self.inside.intake; credentials = c.self.inside.credentials; front = c.self.inside.front; last = c.self.inside.last; ended = c.self.inside.ended } in
    subst (λ (a : Audit). (a.ended ≡ None) × MayAdvance (standing_of a) c.args.horizon c.args.extension.now) c.self.view_is
    (may_come audit c.args.horizon c.args.extension.now none
    (λ not_later. true≢false (sym (c.is_not_later.ensures.1 not_later) ∙ c.if-is_not_later.false))
    ((c.in-Ok-true.ensures known.before known.keeps).0 c.in-Ok-true.field-0-test)
    (c.is_in_turn.ensures.0 c.if-is_in_turn.true))

pub returns-else-is_in_turn-clause-refused : goal.returns-else-is_in_turn-clause-refused
returns-else-is_in_turn-clause-refused c =
    let none = is_none c.self.inside.ended (sym c.is_some.ensures ∙ c.if-is_some.false) in
    let known = c.self.invariant none in
    let audit : Audit = record { intake = c.self.inside.intake; credentials = c.self.inside.credentials; front = c.self.inside.front; last = c.self.inside.last; ended = c.self.inside.ended } in
    subst (λ (a : Audit). IsRefusal a c.args.horizon c.args.extension.now faults.OutOfTurn) c.self.view_is
    (refused_by_moments audit c.args.horizon c.args.extension.now none
    (λ not_later. true≢false (sym (c.is_not_later.ensures.1 not_later) ∙ c.if-is_not_later.false))
    ((c.in-Ok-true.ensures known.before known.keeps).0 c.in-Ok-true.field-0-test)
    (λ turn. true≢false (sym (c.is_in_turn.ensures.1 turn) ∙ c.if-is_in_turn.false)))
