use Rattle.std.proofs.Common.{◌≡◌, ◌⊎◌, IfErr, IfOk, MatchResult, Result, Ok, Err, Some, refl, length, subst, sym}
use Rattle.std.specs.List.{AllZip}
use Rattle.audit_files.specs.Ends.{EndsCheck, EndsFiles, EndsWriting}
use Rattle.audit_model.specs.declared.certificate.Certificate.{Certificate}
use Rattle.audit_program.specs.Watched.{EndsLive, IsWatched}
use Rattle.audit_program.proofs.running.run_request.Goals as goal

both : {T E : Type 0} (P : T → Type 0) (Q : E → Type 0) (r : Result T E) → IfOk r P → IfErr r Q → MatchResult r P Q
both P Q (Ok x) p q = p
both P Q (Err e) p q = q

pub returns-in-Check : goal.returns-in-Check
returns-in-Check g c = rw (c.in-Check.is) (
  refl,
  λ policy users text captures have names holds.
      let texts = subst (λ of. AllZip (λ name bytes. g.S.Source.holds c.args.source.now name.now ≡ Some bytes) of captures) (sym c.deref.ensures.value) names in
      both _ _ c.check_files.result (c.check_files.ensures.audited policy users text captures have.policy' have.users' have.nobody holds texts)
      (subst (λ of. IfErr c.check_files.result (λ stop. EndsCheck (g.S.Source.may_fail c.args.source.now) c.in-Check.inputs.policy.now policy c.in-Check.inputs.credentials users c.in-Check.certificate.now text of captures stop
      ⊎ EndsWriting (g.O.Sink.failures c.args.out.now) (g.O.Sink.failures c.check_files.new.out) stop)) c.deref.ensures.value
      (c.check_files.ensures.ended policy users text captures have.policy' have.users' have.nobody holds texts)),
)

pub returns-in-Audit : goal.returns-in-Audit
returns-in-Audit g c = rw (c.in-Audit.is) (
  refl,
  λ policy users captures have names.
      let texts = subst (λ of. AllZip (λ name bytes. g.S.Source.holds c.args.source.now name.now ≡ Some bytes) of captures) (sym c.deref-in-Audit.ensures.value) names in
      both _ _ c.audit_captures.result (c.audit_captures.ensures.audited policy users captures have.policy' have.users' have.nobody texts)
      (subst (λ of. IfErr c.audit_captures.result (λ stop. EndsFiles (g.S.Source.may_fail c.args.source.now) c.in-Audit.inputs.policy.now policy c.in-Audit.inputs.credentials users of captures stop
      ⊎ EndsWriting (g.O.Sink.failures c.args.out.now) (g.O.Sink.failures c.audit_captures.new.out) stop)) c.deref-in-Audit.ensures.value
      (c.audit_captures.ensures.ended policy users captures have.policy' have.users' have.nobody texts)),
)

pub returns-in-Live : goal.returns-in-Live
returns-in-Live g c = rw (c.in-Live.is) (
  refl,
  λ policy users have. both _ _ c.run_live.result
      (subst (λ of. IfOk c.run_live.result (λ status. (found : Certificate)
      × IsWatched policy users (length of) c.in-Live.turns (g.S.Growing.bytes_read c.run_live.new.source) (g.S.Growing.reads c.run_live.new.source) found (g.O.Sink.taken c.args.out.now) (g.O.Sink.taken c.run_live.new.out) status))
      c.deref-in-Live.ensures.value (c.run_live.ensures.watched policy users have.policy' have.users' have.nobody))
      (subst (λ of. IfErr c.run_live.result (λ stop. EndsLive (g.S.Source.may_fail c.args.source.now) c.in-Live.inputs.policy.now policy c.in-Live.inputs.credentials users (length of) (g.S.Growing.bytes_read c.run_live.new.source) stop
      ⊎ EndsWriting (g.O.Sink.failures c.args.out.now) (g.O.Sink.failures c.run_live.new.out) stop))
      c.deref-in-Live.ensures.value (c.run_live.ensures.ended policy users have.policy' have.users' have.nobody)),
)

pub returns-in-Find : goal.returns-in-Find
returns-in-Find g c = rw (c.in-Find.is) (refl, λ policy users captures have names. both _ _ c.run_find.result (c.run_find.ensures.written policy users captures have names) (c.run_find.ensures.ended policy users captures have names))
