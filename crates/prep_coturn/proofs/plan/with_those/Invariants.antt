use Rattle.std.proofs.Common.{◌≡◌, take}
use Rattle.prep_coturn.specs.Plans.{with_options}
use Rattle.prep_coturn.proofs.plan.with_those.Given as goal

abbrev pub invariant-loop-ip : goal.invariant-loop-ip
invariant-loop-ip l = l.all.items ≡ with_options l.said (take l.ip-index l.added)
