-- Lanes of which no two have one pair.
use Rattle.std.proofs.Common.{◌≡◌, false, List, [], ◌∷◌, ◌++◌}
use Rattle.std.specs.Cmp.{IsEquivalence}
use Rattle.std.specs.List.{IsDistinct}
use Rattle.std.proofs.lemmas.Cmp.{nat_eq_equiv, on_equiv, and_equiv}
use Rattle.std.proofs.lemmas.Map.Keys.{IsDistinct-push}
use Rattle.audit_model.specs.declared.address.Addr.{Addr}
use Rattle.audit_model.specs.declared.certificate.CertLane.{CertLane}
use Rattle.audit_model.specs.Lanes.{same_addr, same_lane, has_pair}

pub same_addr_equiv : IsEquivalence same_addr
same_addr_equiv = and_equiv (on_equiv (λ (a : Addr). a.ip) nat_eq_equiv) (on_equiv (λ (a : Addr). a.port) nat_eq_equiv)

pub same_lane_equiv : IsEquivalence same_lane
same_lane_equiv = and_equiv (on_equiv (λ (l : CertLane). l.client) same_addr_equiv) (on_equiv (λ (l : CertLane). l.listen) same_addr_equiv)

-- a lane of another pair
pub apart_push : (lanes : List CertLane) (lane : CertLane) → IsDistinct same_lane lanes → has_pair lane.client lane.listen lanes ≡ false → IsDistinct same_lane (lanes ++ lane ∷ [])
apart_push lanes lane apart new = IsDistinct-push same_lane_equiv lanes lane apart new
