use Rattle.std.proofs.Common.{◌∙◌, ◌<◌, ℕ, Option, IfSome, inl, inr, length, subst, sym}
use Rattle.audit_program.specs.Following.{LeftBy}
use Rattle.audit_program.specs.Reads.{AreReadOnce}
use Rattle.audit_program.proofs.Following.{fed_apart}
use Rattle.audit_program.proofs.Reading.{fed_not_quiet, is_later, once_not_quiet, quiet_apart}
use Rattle.audit_program.specs.declared.live.Turn.TheVariants as turns
use Rattle.audit_program.specs.declared.live.Turn.{Turn}
use Rattle.audit_program.proofs.live.Watch.turn.Goals as goal

pub returns-in-Quiet-clause-left : goal.returns-in-Quiet-clause-left
returns-in-Quiet-clause-left g c = λ policy users count goes.
    subst (λ (t : Turn). LeftBy t policy users count (g.S.Growing.bytes_read c.feed_each.new.source) c.feed_each.new.self.live) c.in-Quiet.is (c.in_ok-feed_each.ensures.left policy users count goes)

pub returns-in-Refused-clause-left : goal.returns-in-Refused-clause-left
returns-in-Refused-clause-left g c = λ policy users count goes.
    subst (λ (t : Turn). LeftBy t policy users count (g.S.Growing.bytes_read c.feed_each.new.source) c.feed_each.new.self.live) c.in-Refused.is (c.in_ok-feed_each.ensures.left policy users count goes)

pub returns-in-None-clause-left : goal.returns-in-None-clause-left
returns-in-None-clause-left g c = λ policy users count goes.
    subst (λ (t : Turn). LeftBy t policy users count (g.S.Growing.bytes_read c.feed_each.new.source) c.feed_each.new.self.live) c.in-Fed.is (c.in_ok-feed_each.ensures.left policy users count goes)

pub returns-in-Refused-clause-over : goal.returns-in-Refused-clause-over
returns-in-Refused-clause-over g c = λ policy users count goes same. c.in_ok-feed_each.ensures.over policy users count goes c.in-Refused.is

pub returns-in-Quiet-clause-read : goal.returns-in-Quiet-clause-read
returns-in-Quiet-clause-read g c = λ apart.
    subst (λ (t : Turn). AreReadOnce t (length c.args.names.now) (g.S.Growing.reads c.args.source.now) (g.S.Growing.reads c.feed_each.new.source)) c.in-Quiet.is
    (c.in_ok-feed_each.ensures.read (λ same. quiet_apart (sym c.in-Quiet.is ∙ same)))

pub returns-in_ok-advance-in-Some-clause-left : goal.returns-in_ok-advance-in-Some-clause-left
returns-in_ok-advance-in-Some-clause-left g c = λ policy users count goes.
    c.in_ok-advance-in-Some.ensures.left policy users count (g.S.Growing.bytes_read c.feed_each.new.source)
    (subst (λ (t : Turn). LeftBy t policy users count (g.S.Growing.bytes_read c.feed_each.new.source) c.feed_each.new.self.live) c.in-Fed.is (c.in_ok-feed_each.ensures.left policy users count goes))

pub returns-in_ok-advance-in-Some-clause-over : goal.returns-in_ok-advance-in-Some-clause-over
returns-in_ok-advance-in-Some-clause-over g c = λ policy users count goes same none.
    let live = c.feed_each.new.self.live in
    let going = subst (λ (t : Turn). LeftBy t policy users count (g.S.Growing.bytes_read c.feed_each.new.source) live) c.in-Fed.is (c.in_ok-feed_each.ensures.left policy users count goes) in
    let past = subst (λ (last : Option ℕ). IfSome last (λ before. before < c.in-Some.horizon)) c.last.ensures c.in-Some.ensures.some.1 in
    elim (c.in_ok-advance-in-Some.ensures.over going.0 same) [
      | inl apart ↦ apart none
      | inr not_later ↦ is_later live c.in-Some.horizon past not_later
    ]

pub returns-in_ok-advance-in-Some-clause-read : goal.returns-in_ok-advance-in-Some-clause-read
returns-in_ok-advance-in-Some-clause-read g c = λ apart.
    once_not_quiet c.in_ok-feed_each.field-0 c.in_ok-advance-in-Some.field-0 (length c.args.names.now) (g.S.Growing.reads c.args.source.now) (g.S.Growing.reads c.feed_each.new.source) c.in_ok-advance-in-Some.ensures.fed
    (c.in_ok-feed_each.ensures.read (λ same. fed_apart (sym c.in-Fed.is ∙ same)))

pub returns-in-None-clause-read : goal.returns-in-None-clause-read
returns-in-None-clause-read g c = λ apart.
    once_not_quiet c.in_ok-feed_each.field-0 turns.Fed (length c.args.names.now) (g.S.Growing.reads c.args.source.now) (g.S.Growing.reads c.feed_each.new.source) fed_not_quiet
    (c.in_ok-feed_each.ensures.read (λ same. fed_apart (sym c.in-Fed.is ∙ same)))
