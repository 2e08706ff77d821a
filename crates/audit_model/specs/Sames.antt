-- Equal ids and equal clients.
use Rattle.std.specs.Prelude.{Bool, ◌&&◌, ◌==◌}
use Rattle.audit_model.specs.declared.pair.Pair.{Pair}
use Rattle.audit_model.specs.declared.sighting.SightId.{SightId}
use Rattle.audit_model.specs.Lanes.{same_pair}

-- one id of a sighting
abbrev pub same_sight : SightId → SightId → Bool
same_sight a b = (a.iface == b.iface) && (a.index == b.index)

-- one client at one listen address
abbrev pub same_client : Pair → Pair → Bool
same_client a b = same_pair a.client a.listen b.client b.listen
