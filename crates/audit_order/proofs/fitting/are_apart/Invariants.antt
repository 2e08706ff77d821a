use Rattle.std.proofs.Common.{List, ◌++◌, map, take}
use Rattle.std.specs.List.{IsDistinct}
use Rattle.audit_model.specs.declared.certificate.CertLane.{CertLane}
use Rattle.audit_model.specs.Lanes.{same_lane}
use Rattle.audit_order.specs.Grown.{empty_lane}
use Rattle.audit_order.specs.Kept.{AreOfLanes}
use Rattle.audit_order.proofs.fitting.are_apart.Given as goal

-- the pairs so far are new, and the set has them
abbrev pub invariant-new : goal.invariant-new
invariant-new l = record {
  seen : AreOfLanes l.seen (map empty_lane (take l.client-index l.new));
  apart : (lanes : List CertLane) → AreOfLanes l.pairs lanes → IsDistinct same_lane lanes → IsDistinct same_lane (lanes ++ map empty_lane (take l.client-index l.new));
}
