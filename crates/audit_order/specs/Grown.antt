-- A certificate with an extension.
use Rattle.std.specs.Prelude.{◌≡◌, ◌<◌, ◌≤◌, ℕ, ◌+◌, ◌==◌, List, [], ◌∷◌, ◌++◌, All, length, map, filter}
use Rattle.std.specs.List.{IsDistinct}
use Rattle.audit_model.specs.declared.address.Addr.{Addr}
use Rattle.audit_model.specs.declared.certificate.Certificate.{Certificate}
use Rattle.audit_model.specs.declared.certificate.CertLane.{CertLane}
use Rattle.audit_model.specs.declared.certificate.TheConstants.{MAX_LANES, MAX_EVENTS}
use Rattle.audit_model.specs.declared.event.Event.{Event}
use Rattle.audit_model.specs.declared.extension.Extension.{Extension}
use Rattle.audit_model.specs.EventCount.{event_count}
use Rattle.audit_model.specs.Lanes.{same_lane}

-- the lane of a client and a listen address, without events
abbrev pub empty_lane : Addr × Addr → CertLane
empty_lane pair = record { events = []; client = pair.0; listen = pair.1 }

-- those of the events that are of the lane of that number, in their order
abbrev pub of_lane : ℕ → List (ℕ × Event) → List Event
of_lane number events = map (λ event. event.1) (filter (λ event. event.0 == number) events)

-- lanes from that number on, each with its own of the events after those that it has
abbrev pub with_events : ℕ → List CertLane → List (ℕ × Event) → List CertLane
with_events number [] events = []
with_events number (lane ∷ lanes) events =
    record { events = lane.events ++ of_lane number events; client = lane.client; listen = lane.listen } ∷ with_events (number + 1) lanes events

-- a certificate that grows narrows no window
pub record Extends (old : Certificate) (extension : Extension) (new : Certificate) : Type 0 where
  pub lanes : new.lanes ≡ with_events 0 (old.lanes ++ map empty_lane extension.lanes) extension.events
  pub drops : new.drops ≡ old.drops ++ extension.drops
  pub skews : new.skews ≡ []

-- the limits are kept, and the events' lanes exist
pub record HasRoom (certificate : Certificate) (extension : Extension) : Type 0 where
  pub few_lanes : length certificate.lanes + length extension.lanes ≤ MAX_LANES
  pub few_events : event_count certificate.lanes + length certificate.drops + length extension.events + length extension.drops ≤ MAX_EVENTS
  pub numbers : All (λ event. event.0 < length certificate.lanes + length extension.lanes) extension.events

-- and no two lanes are of one pair: the certificate with the extension is one
pub record Fits (certificate : Certificate) (extension : Extension) : Type 0 where
  pub room : HasRoom certificate extension
  pub apart : IsDistinct same_lane (certificate.lanes ++ map empty_lane extension.lanes)
