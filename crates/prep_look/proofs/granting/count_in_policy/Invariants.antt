use Rattle.std.proofs.Common.{◌≡◌, take}
use Rattle.std.specs.List.{count_by}
use Rattle.audit_model.specs.Policy.{relays}
use Rattle.prep_look.proofs.granting.count_in_policy.Given as goal

abbrev pub invariant-loop-one : goal.invariant-loop-one
invariant-loop-one l = l.count ≡ count_by (λ one. relays l.policy one.relayed) (take l.one-index l.granted)
