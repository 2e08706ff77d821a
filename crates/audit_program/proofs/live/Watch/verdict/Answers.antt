use Rattle.std.proofs.Common.{refl, Ok}
use Rattle.audit_program.proofs.Following.{ended_by, ends_turns, reported_at_last}
use Rattle.audit_program.proofs.live.Watch.verdict.Goals as goal

pub returns-in-Ok-clause-reported : goal.returns-in-Ok-clause-reported
returns-in-Ok-clause-reported g c = λ policy users count bytes_read reads turns follows has_ended.
    let live = c.args.self.now.live in
    reported_at_last turns policy users count bytes_read reads live follows has_ended (Ok c.in-Ok.verdict) c.in-Ok.ensures.first_cause live.ended refl c.in-Ok.ensures.ends c.in-Ok.ensures.verdict c.in-Ok.ensures.conforming

pub returns-in-Err-clause-refused : goal.returns-in-Err-clause-refused
returns-in-Err-clause-refused g c = λ policy users count bytes_read follows.
    let live = c.args.self.now.live in
    ends_turns count bytes_read live.intake.policy c.in-Err.end c.stop_of.result (ended_by policy users count bytes_read live follows c.in-Err.end c.in-Err.ensures.first_cause c.in-Err.ensures.ends) c.stop_of.ensures
