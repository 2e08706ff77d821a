use Rattle.audit_server.specs.Captured.{rules_of}
use Rattle.audit_segments.proofs.Rules.{ignore_past_grace}
use Rattle.audit_segments.proofs.Continuing.{run_too}
use Rattle.audit_segments.proofs.States.{alike_sym}
use Rattle.audit_segments.proofs.laws.alike_states_continue_alike.Goals as goal

pub returns-clause-runs : goal.returns-clause-runs
returns-clause-runs c policy key_for view cut one other steps k n r = run_too (rules_of policy key_for view) (ignore_past_grace policy key_for view) cut steps one other k n r

pub returns-clause-symmetric : goal.returns-clause-symmetric
returns-clause-symmetric c hold grace placed excluded one other k = alike_sym hold grace placed excluded one other k
