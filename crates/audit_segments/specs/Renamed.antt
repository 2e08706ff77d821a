-- A sighting under another id.
use Rattle.std.specs.Prelude.{Option, Some, None}
use Rattle.audit_model.specs.declared.sighting.SightId.{SightId}
use Rattle.audit_model.specs.declared.sighting.Sighting.{Sighting}

-- the same datagram, with this id
abbrev pub renamed : SightId → Sighting → Sighting
renamed name s = record { payload = s.payload; stamp = s.stamp; lo = s.lo; hi = s.hi; id = name; from = s.from; to = s.to; side = s.side }

abbrev pub renamed_if : SightId → Option Sighting → Option Sighting
renamed_if name None = None
renamed_if name (Some s) = Some (renamed name s)
