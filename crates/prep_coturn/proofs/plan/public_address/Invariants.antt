use Rattle.std.proofs.Common.{◌≡◌, take}
use Rattle.prep_coturn.specs.Plans.{public_of}
use Rattle.prep_coturn.proofs.plan.public_address.Given as goal

abbrev pub invariant-loop-one : goal.invariant-loop-one
invariant-loop-one l = l.public ≡ public_of l.relaying (take l.one-index l.external) l.wire
