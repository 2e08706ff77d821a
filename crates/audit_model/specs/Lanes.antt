-- Which lanes are of one client at one listen address.
use Rattle.std.specs.Prelude.{Bool, ◌&&◌, ◌==◌, List}
use Rattle.std.specs.List.{list_any}
use Rattle.audit_model.specs.declared.address.Addr.{Addr}
use Rattle.audit_model.specs.declared.certificate.CertLane.{CertLane}

abbrev pub same_addr : Addr → Addr → Bool
same_addr a b = (a.ip == b.ip) && (a.port == b.port)

abbrev pub same_pair : Addr → Addr → Addr → Addr → Bool
same_pair client listen c l = same_addr client c && same_addr listen l

-- two lanes of one client at one listen address
abbrev pub same_lane : CertLane → CertLane → Bool
same_lane a b = same_pair a.client a.listen b.client b.listen

-- one of the lanes is of this client at this listen address
abbrev pub has_pair : Addr → Addr → List CertLane → Bool
has_pair client listen lanes = list_any (λ lane. same_pair client listen lane.client lane.listen) lanes
