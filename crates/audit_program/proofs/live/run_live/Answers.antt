use Rattle.std.proofs.Common.{◌⊎◌, length, inl, inr, subst, sym}
use Rattle.std.proofs.lemmas.Result.{IfErr-weaker}
use Rattle.audit_files.proofs.Refusing.{err_then}
use Rattle.audit_keys.specs.KeyFor.{key_for}
use Rattle.audit_program.specs.Watched.{EndsLive, EndsTurns}
use Rattle.audit_program.proofs.Following.{stopped_ends}
use Rattle.audit_files.proofs.Fed.{if_ok}
use Rattle.audit_program.proofs.live.run_live.Goals as goal

-- one of two, of which the first is weakened
ended_or : {A B C : Type 0} → (A → B) → A ⊎ C → B ⊎ C
ended_or f (inl a) = inl (f a)
ended_or f (inr c) = inr c

pub returns-clause-watched : goal.returns-clause-watched
returns-clause-watched g c = λ policy_text users_text policy users none.
    let goes = c.in_ok-watch.ensures.goes policy_text users_text policy users none in
    let follows = c.in_ok-go.ensures.follows policy_text users_text (length c.args.captures.now) goes in
    let ended = c.in_ok-go.ensures.ended policy_text users_text (length c.args.captures.now) goes c.in_ok-watch.ensures.unread in
    if_ok c.write_report.result (λ status watched. (c.go.new.self.live.front.placing.certificate, watched))
    (c.write_report.ensures.reported policy_text users_text (length c.args.captures.now) (g.S.Growing.bytes_read c.go.new.source) (g.S.Growing.reads c.go.new.source) c.args.turns follows ended)

pub returns-in_err-watch-clause-ended : goal.returns-in_err-watch-clause-ended
returns-in_err-watch-clause-ended g c = λ policy_text users_text policy users none.
    let ends = c.in_err-watch.ensures.refused policy_text users_text (g.S.Growing.bytes_read c.open.new.source) policy users none in
    err_then c.from_residual.result c.from_residual.ensures.1
    (λ stop is. inl (subst (λ s. EndsLive (g.S.Source.may_fail c.args.source.now) c.args.policy.now policy_text c.args.users users_text (length c.args.captures.now) (g.S.Growing.bytes_read c.open.new.source) s) (sym is) ends))

pub returns-in_err-go-clause-ended : goal.returns-in_err-go-clause-ended
returns-in_err-go-clause-ended g c = λ policy_text users_text policy users none.
    let goes = c.in_ok-watch.ensures.goes policy_text users_text policy users none in
    let bytes_read = g.S.Growing.bytes_read c.go.new.source in
    let count = length c.args.captures.now in
    let ends = stopped_ends count bytes_read c.in_ok-watch.watch.live.intake.policy c.in_err-go.field-0.0 c.in_err-go.ensures.stopped in
    err_then c.from_residual-in_err-go.result c.from_residual-in_err-go.ensures.1
    (λ stop is. inl (inr (c.in_ok-watch.watch.live.intake.policy, goes.1.policy', inr (key_for c.in_ok-watch.watch.live.credentials, goes.1.users', subst (λ s. EndsTurns count bytes_read c.in_ok-watch.watch.live.intake.policy s) (sym is) ends))))

pub returns-clause-ended : goal.returns-clause-ended
returns-clause-ended g c = λ policy_text users_text policy users none.
    let goes = c.in_ok-watch.ensures.goes policy_text users_text policy users none in
    let count = length c.args.captures.now in
    let follows = c.in_ok-go.ensures.follows policy_text users_text count goes in
    let bytes_read = g.S.Growing.bytes_read c.go.new.source in
    IfErr-weaker c.write_report.result _ _ (λ stop ends. ended_or (λ turns. inr (c.go.new.self.live.intake.policy, follows.policy', inr (key_for c.go.new.self.live.credentials, follows.users', turns))) ends)
    (c.write_report.ensures.refused policy_text users_text count bytes_read follows)
