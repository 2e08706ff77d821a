use Rattle.std.proofs.Common.{◌∙◌, length, subst, sym}
use Rattle.audit_program.specs.Following.{LeftBy}
use Rattle.audit_program.specs.Reads.{AreReadOnce}
use Rattle.audit_program.proofs.Following.{fed_apart}
use Rattle.audit_program.proofs.Reading.{quiet_apart, quiet_on, read_on}
use Rattle.audit_program.specs.declared.live.Turn.TheVariants as turns
use Rattle.audit_program.specs.declared.live.Turn.{Turn}
use Rattle.audit_program.proofs.live.Watch.turn_on.Goals as goal

pub returns-in-Fed-clause-goes : goal.returns-in-Fed-clause-goes
returns-in-Fed-clause-goes g c = λ policy users count goes.
    subst (λ (t : Turn). LeftBy t policy users count (g.S.Growing.bytes_read c.turn.new.source) c.turn.new.self.live) c.in-Fed.is (c.in_ok-turn.ensures.left policy users count goes)

pub returns-in-Fed-clause-follows : goal.returns-in-Fed-clause-follows
returns-in-Fed-clause-follows g c = λ policy users count goes.
    (subst (λ (t : Turn). LeftBy t policy users count (g.S.Growing.bytes_read c.turn.new.source) c.turn.new.self.live) c.in-Fed.is (c.in_ok-turn.ensures.left policy users count goes)).1

pub returns-in-Quiet-clause-goes : goal.returns-in-Quiet-clause-goes
returns-in-Quiet-clause-goes g c = λ policy users count goes.
    subst (λ (t : Turn). LeftBy t policy users count (g.S.Growing.bytes_read c.turn.new.source) c.turn.new.self.live) c.in-Quiet.is (c.in_ok-turn.ensures.left policy users count goes)

pub returns-in-Quiet-clause-follows : goal.returns-in-Quiet-clause-follows
returns-in-Quiet-clause-follows g c = λ policy users count goes.
    (subst (λ (t : Turn). LeftBy t policy users count (g.S.Growing.bytes_read c.turn.new.source) c.turn.new.self.live) c.in-Quiet.is (c.in_ok-turn.ensures.left policy users count goes)).1

pub returns-in-Refused-clause-follows : goal.returns-in-Refused-clause-follows
returns-in-Refused-clause-follows g c = λ policy users count goes.
    subst (λ (t : Turn). LeftBy t policy users count (g.S.Growing.bytes_read c.turn.new.source) c.turn.new.self.live) c.in-Refused.is (c.in_ok-turn.ensures.left policy users count goes)

pub returns-in-Refused-clause-over : goal.returns-in-Refused-clause-over
returns-in-Refused-clause-over g c = λ policy users count goes. c.in_ok-turn.ensures.over policy users count goes c.in-Refused.is

pub returns-in-Fed-clause-read : goal.returns-in-Fed-clause-read
returns-in-Fed-clause-read g c = λ count were.
    let before = g.S.Growing.reads c.args.source.now in
    let now = g.S.Growing.reads c.turn.new.source in
    read_on (length c.args.names.now) count c.args.idle before now were turns.Fed
    (subst (λ (t : Turn). AreReadOnce t (length c.args.names.now) before now) c.in-Fed.is (c.in_ok-turn.ensures.read (λ same. fed_apart (sym c.in-Fed.is ∙ same))))

pub returns-in-Quiet-clause-read : goal.returns-in-Quiet-clause-read
returns-in-Quiet-clause-read g c = λ count were.
    let before = g.S.Growing.reads c.args.source.now in
    let now = g.S.Growing.reads c.turn.new.source in
    quiet_on (length c.args.names.now) count c.args.idle before now were
    (subst (λ (t : Turn). AreReadOnce t (length c.args.names.now) before now) c.in-Quiet.is (c.in_ok-turn.ensures.read (λ same. quiet_apart (sym c.in-Quiet.is ∙ same))))
