-- The greatest of those so far.
use Rattle.std.proofs.Common.{◌≡◌, take}
use Rattle.std.specs.Prelude.{fold}
use Rattle.prep_cut.specs.Edges.{greater}
use Rattle.prep_cut.proofs.edge.slack_of.Given as goal

abbrev pub invariant-loop-own : goal.invariant-loop-own
invariant-loop-own l = l.most ≡ fold greater l.policy.skew (take l.own-index l.skews)
