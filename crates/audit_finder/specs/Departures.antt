-- The sightings that leave, and how often.
use Rattle.std.specs.Prelude.{◌≡◌, ◌≤◌, ℕ, Bool, true, false, cond, List, Vec, [], map, get_or, sum_by}
use Rattle.std.specs.declared.alloc.Global.{Global}
use Rattle.audit_model.specs.declared.certificate.CertLane.{CertLane}
use Rattle.audit_model.specs.declared.event.Event.{Event}
use Rattle.audit_model.specs.declared.event.Event.TheVariants.{In, Act, Out}
use Rattle.audit_model.specs.declared.sighting.SightId.{SightId}
use Rattle.audit_model.specs.Sames.{same_sight}

-- 1 if the sighting leaves by the event
abbrev pub out_of : SightId → Event → ℕ
out_of s (In sight key) = 0
out_of s (Act sight gives key) = 0
out_of s (Out sight key) = cond (same_sight s sight) 1 0

-- how often it leaves by the events of a lane
abbrev pub outs : SightId → CertLane → ℕ
outs s lane = sum_by (out_of s) lane.events

-- how often it leaves by the events of all lanes
abbrev pub out_count : SightId → List CertLane → ℕ
out_count s lanes = sum_by (outs s) lanes

-- no sighting leaves twice
abbrev pub LeaveOnce : List CertLane → Type 0
LeaveOnce lanes = (s : SightId) → out_count s lanes ≤ 1

-- whether a sighting has left, by the records of each interface; a missing one counts as left
abbrev pub has_left : List (Vec Bool Global) → SightId → Bool
has_left rows s = get_or (get_or (map (λ row. row.items) rows) s.iface []) s.index true

-- no sighting leaves twice, and each one that leaves is recorded
abbrev pub IsNoted : List (Vec Bool Global) → List CertLane → Type 0
IsNoted rows lanes = (s : SightId) → (out_count s lanes ≤ 1) × (has_left rows s ≡ false → out_count s lanes ≡ 0)
