use Rattle.std.proofs.Common.{◌≡◌, ℕ, Some, Option, inl, inr, refl, subst, sym}
use Rattle.audit_files.proofs.Refusing.{err_then}
use Rattle.audit_files.specs.declared.stop.Stop.{Stop}
use Rattle.audit_files.specs.Ends.{EndsFiles, EndsWriting}
use Rattle.audit_files.specs.Stops.{EndsByWrite}
use Rattle.audit_model.specs.declared.write_fault.WriteFault.{WriteFault}
use Rattle.audit_model.specs.declared.write_fault.WriteFault.TheVariants.{Device, Memory}
use Rattle.audit_model.specs.Sink.{raised_by}
use Rattle.std.specs.List.{AllZip}
use Rattle.audit_keys.specs.KeyFor.{key_for}
use Rattle.audit_sightings.specs.Intake.{taken}
use Rattle.audit_program.proofs.running.run_find.Goals as goal

pub returns-clause-written : goal.returns-clause-written
returns-clause-written g c = λ policy users captures have names. record {
  taken = taken c.in_ok-files.files.intake;
  key_for = key_for c.in_ok-files.files.users;
  read = c.in_ok-files.ensures.read policy users captures have.policy' have.users' have.nobody
      (subst (λ of. AllZip (λ name bytes. g.S.Source.holds c.args.source.now name.now ≡ Some bytes) of captures) (sym c.deref.ensures.value) names);
  certificate = c.in_ok-certificate.certificate;
  found = c.in_ok-certificate.ensures;
  written = c.in_ok-write_parallel.ensures.ok;
  reported = refl;
}

-- a write that failed, or want of memory
write_ends : (fault : WriteFault) (stop : Stop) (before after : Option ℕ) → (fault ≡ Device → after ≡ raised_by before 1) → EndsByWrite fault stop → EndsWriting before after stop
write_ends Device stop before after raised ends = inr (ends, raised refl)
write_ends Memory stop before after raised ends = inl ends

pub returns-in_err-files-clause-ended : goal.returns-in_err-files-clause-ended
returns-in_err-files-clause-ended g c = λ policy users captures have names.
    let ends = c.in_err-files.ensures.refused policy users captures have.policy' have.users' have.nobody
    (subst (λ of. AllZip (λ name bytes. g.S.Source.holds c.args.source.now name.now ≡ Some bytes) of captures) (sym c.deref.ensures.value) names) in
    let here = subst (λ names. EndsFiles (g.S.Source.may_fail c.args.source.now) c.args.inputs.now.policy.now policy c.args.inputs.now.credentials users names captures c.in_err-files.field-0.0) c.deref.ensures.value ends in
    err_then c.from_residual.result c.from_residual.ensures.1
    (λ stop is. inl (subst (λ s. EndsFiles (g.S.Source.may_fail c.args.source.now) c.args.inputs.now.policy.now policy c.args.inputs.now.credentials users c.args.inputs.now.captures.items captures s) (sym is) here))

pub returns-in_err-certificate-clause-ended : goal.returns-in_err-certificate-clause-ended
returns-in_err-certificate-clause-ended g c = λ policy users captures have names. err_then c.from_residual-in_err-certificate.result c.from_residual-in_err-certificate.ensures.1 (λ stop memory. inr (inl memory))

pub returns-in_err-write_parallel-clause-ended : goal.returns-in_err-write_parallel-clause-ended
returns-in_err-write_parallel-clause-ended g c = λ policy users captures have names.
    let fault = c.in_err-write_parallel.field-0.0 in
    err_then c.from_residual-in_err-write_parallel.result c.from_residual-in_err-write_parallel.ensures.1
    (λ stop ends. inr (write_ends fault stop (g.O.Sink.failures c.args.out.now) (g.O.Sink.failures c.write_parallel.new.out) c.in_err-write_parallel.ensures.device ends))
