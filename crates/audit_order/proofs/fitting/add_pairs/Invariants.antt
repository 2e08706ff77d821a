use Rattle.std.proofs.Common.{List, ◌++◌, map, take}
use Rattle.audit_model.specs.declared.certificate.CertLane.{CertLane}
use Rattle.audit_order.specs.Grown.{empty_lane}
use Rattle.audit_order.specs.Kept.{AreOfLanes}
use Rattle.audit_order.proofs.fitting.add_pairs.Given as goal

-- the set has the pairs so far
abbrev pub invariant-new : goal.invariant-new
invariant-new l = (lanes : List CertLane) → AreOfLanes l.fn.pairs lanes → AreOfLanes l.pairs (lanes ++ map empty_lane (take l.client-index l.new))
