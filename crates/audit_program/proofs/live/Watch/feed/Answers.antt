use Rattle.std.proofs.Common.{ap, refl}
use Rattle.audit_live.specs.Audit.{Audit}
use Rattle.audit_program.proofs.Following.{follows_refused, goes_fed, left_going}
use Rattle.audit_program.proofs.Reading.{over_fed}
use Rattle.audit_program.proofs.live.Watch.feed.Goals as goal

pub returns-in-Ok-clause-left : goal.returns-in-Ok-clause-left
returns-in-Ok-clause-left g c = λ policy users count goes.
    left_going c.turn_of.result policy users count (g.S.Growing.bytes_read c.more.new.self) c.feed.new.self c.turn_of.ensures.taken
    (goes_fed policy users count (g.S.Growing.bytes_read c.args.source.now) c.args.self.now.live goes (g.S.Growing.bytes_read c.more.new.self) c.args.file _ c.feed.new.self
    c.in_ok-read.ensures.bytes c.more.ensures.others c.in-Ok.ensures.ok c.in-Ok.ensures.goes_on c.feed.ensures.files c.feed.ensures.policy
    (ap (λ (a : Audit). a.credentials) c.feed.ensures.rest))

pub returns-in-Ok-clause-over : goal.returns-in-Ok-clause-over
returns-in-Ok-clause-over g c = λ going same. absurd (c.turn_of.ensures.taken same)

pub returns-in-Err-clause-over : goal.returns-in-Err-clause-over
returns-in-Err-clause-over g c = λ going same. over_fed c.feed.new.self c.in-Err.field-0 (c.in-Err.ensures.cause going)

pub returns-in-Ok-clause-read : goal.returns-in-Ok-clause-read
returns-in-Ok-clause-read g c = λ apart. (c.in_ok-read.read, c.in_ok-read.ensures.read, c.turn_of.ensures.quiet)

pub returns-in-Err-clause-read : goal.returns-in-Err-clause-read
returns-in-Err-clause-read g c = λ apart. absurd (apart refl)

pub returns-in-Err-clause-left : goal.returns-in-Err-clause-left
returns-in-Err-clause-left g c = λ policy users count goes.
    follows_refused policy users count (g.S.Growing.bytes_read c.args.source.now) c.args.self.now.live goes (g.S.Growing.bytes_read c.more.new.self) c.args.file _ c.feed.new.self c.in-Err.field-0
    c.in_ok-read.ensures.bytes c.more.ensures.others (c.in-Err.ensures.cause goes.0) (c.in-Err.ensures.err goes.0) c.feed.ensures.files c.feed.ensures.policy
    (ap (λ (a : Audit). a.credentials) c.feed.ensures.rest)
