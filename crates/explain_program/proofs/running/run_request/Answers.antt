use Rattle.std.proofs.Common.{◌≡◌, Some, refl, subst, sym}
use Rattle.std.specs.List.{AllZip}
use Rattle.explain_program.proofs.running.run_request.Goals as goal

pub returns-in-Explain : goal.returns-in-Explain
returns-in-Explain g c = rw (c.in-Explain.is) (
  refl,
  λ policy users captures have. c.explain.ensures policy users captures have.policy' have.users' have.nobody
      (subst (λ of. AllZip (λ name bytes. g.S.Source.holds c.args.source.now.inner name.now ≡ Some bytes) of captures) (sym c.deref.ensures.value) have.captures'),
)

pub returns-in-AsJson : goal.returns-in-AsJson
returns-in-AsJson g c = rw (c.in-AsJson.is) (
  refl,
  λ policy users captures have. c.explain_as_json.ensures policy users captures have.policy' have.users' have.nobody
      (subst (λ of. AllZip (λ name bytes. g.S.Source.holds c.args.source.now.inner name.now ≡ Some bytes) of captures) (sym c.deref-in-AsJson.ensures.value) have.captures'),
)

pub returns-in-Faults : goal.returns-in-Faults
returns-in-Faults g c = rw (c.in-Faults.is) (
  refl,
  λ policy users captures have. c.faults.ensures policy users captures have.policy' have.users' have.nobody
      (subst (λ of. AllZip (λ name bytes. g.S.Source.holds c.args.source.now.inner name.now ≡ Some bytes) of captures) (sym c.deref-in-Faults.ensures.value) have.captures'),
)

pub returns-in-Evidence : goal.returns-in-Evidence
returns-in-Evidence g c = rw (c.in-Evidence.is) (
  refl,
  λ policy users captures have. c.evidence.ensures policy users captures have.policy' have.users' have.nobody have.captures',
)
