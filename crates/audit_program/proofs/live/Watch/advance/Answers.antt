use Rattle.std.proofs.Common.{subst, sym}
use Rattle.audit_live.specs.Audit.{Audit}
use Rattle.audit_program.specs.Following.{Goes}
use Rattle.audit_program.proofs.Following.{follows_stopped}
use Rattle.audit_program.proofs.live.Watch.advance.Goals as goal

pub returns-in-Err-clause-left : goal.returns-in-Err-clause-left
returns-in-Err-clause-left g c = λ policy users count bytes_read goes.
    let going = subst (λ (live : Audit). Goes policy users count bytes_read live) (sym c.extension.ensures.live.0) goes in
    follows_stopped policy users count bytes_read c.extension.new.self.live going c.args.horizon c.in_ok-extension.extension c.advance.new.self c.in-Err.field-0 c.in-Err.ensures.refused c.in-Err.ensures.leaves c.in-Err.ensures.broken c.advance.ensures.rest.0 c.advance.ensures.rest.1
