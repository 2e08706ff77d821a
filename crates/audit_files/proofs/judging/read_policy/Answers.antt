use Rattle.std.proofs.Common.{◌≡◌, Ok}
use Rattle.std.proofs.lemmas.Result.{IfOk-weaker}
use Rattle.audit_model.specs.Policy.{AreApart}
use Rattle.audit_model.specs.PolicyText.{policy_of}
use Rattle.audit_model.proofs.Endpoints.{read_apart}
use Rattle.audit_files.proofs.judging.read_policy.Goals as goal

pub returns-clause-apart : goal.returns-clause-apart
returns-clause-apart g c text holds =
    IfOk-weaker c.read_text.result (λ policy. policy_of text ≡ Ok policy) AreApart (λ policy said. read_apart text policy said) (c.read_text.ensures.says text holds c.new.ensures)
