-- The number of events of a certificate's lanes.
use Rattle.std.specs.Prelude.{ℕ, List, length, sum_by}
use Rattle.audit_model.specs.declared.certificate.CertLane.{CertLane}

abbrev pub event_count : List CertLane → ℕ
event_count lanes = sum_by (λ lane. length lane.events) lanes
