use Rattle.audit_server.specs.Captured.{rules_of}
use Rattle.audit_server.specs.Rules.{Rules}
use Rattle.audit_server.proofs.Once.{run_cut}
use Rattle.audit_segments.proofs.Joining.{run_front, run_join}
use Rattle.audit_segments.proofs.laws.runs_can_be_cut.Goals as goal

pub returns : goal.returns
returns c policy key_for view st front rest =
    let w : Rules = rules_of policy key_for view in
    ((λ r. (run_front w front rest st r, run_cut w front rest st r)), (λ r. run_join w front rest st r.0 r.1))
