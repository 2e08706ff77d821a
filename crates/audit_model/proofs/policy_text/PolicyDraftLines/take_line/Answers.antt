use Rattle.audit_text.proofs.Standing.{taken_as}
use Rattle.audit_model.specs.PolicyFault.{is_memory}
use Rattle.audit_model.specs.PolicyLines.{Said}
use Rattle.audit_model.specs.PolicyText.{after}
use Rattle.audit_model.proofs.policy_text.PolicyDraftLines.take_line.Goals as goal

pub returns : goal.returns
returns c before same = taken_as is_memory c.add.result (λ (said : Said). after said c.args.line.now) c.args.self.now c.add.new.self before c.add.ensures same
