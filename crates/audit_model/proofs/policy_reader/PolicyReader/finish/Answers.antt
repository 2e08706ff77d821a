use Rattle.std.proofs.Common.{Ok, ap, sym, ◌∙◌}
use Rattle.audit_model.specs.PolicyText.{nothing_said, policy_read, policy_said, policy_of}
use Rattle.audit_model.proofs.Endpoints.{read_apart}
use Rattle.audit_model.proofs.policy_reader.PolicyReader.finish.Goals as goal

pub returns-in-Ok-clause-reading : goal.returns-in-Ok-clause-reading
unfolding policy_of
returns-in-Ok-clause-reading c text stands =
    let took = c.in-Ok.ensures nothing_said text (rw c.self.view_is stands) in
    ap (λ p. Ok p) (c.policy.ensures ∙ ap policy_said took.2) ∙ sym (ap policy_read took.1)

pub returns-in-Ok-clause-apart : goal.returns-in-Ok-clause-apart
unfolding policy_of
returns-in-Ok-clause-apart c text stands =
    let took = c.in-Ok.ensures nothing_said text (rw c.self.view_is stands) in
    read_apart text c.policy.result (ap policy_read took.1 ∙ ap (λ p. Ok p) (sym (c.policy.ensures ∙ ap policy_said took.2)))
