use Rattle.audit_whole.specs.BindingCapture.{binding_capture, binding_steps}
use Rattle.audit_whole.proofs.BindingRun.{binding_explained, binding_apart, binding_bounded}
use Rattle.audit_whole.proofs.Explained.{explained}
use Rattle.audit_whole.proofs.laws.binding_is_explained.Goals as goal
use Rattle.std.proofs.Common.{arith}

pub returns-clause-run : goal.returns-clause-run
returns-clause-run c = binding_explained

pub returns-clause-certificate : goal.returns-clause-certificate
returns-clause-certificate c key_for =
    let k = explained binding_capture key_for binding_steps binding_apart binding_bounded (binding_explained key_for) (omega arith) in
    (k.0, k.1, k.2)
