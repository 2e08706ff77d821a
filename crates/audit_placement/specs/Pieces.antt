-- Events that break no rule by themselves: each is checked after the one before it in its lane,
-- whatever else places its sighting.
use Rattle.std.specs.Prelude.{◌≡◌, false, List, [], ◌∷◌, Option, Some, None}
use Rattle.audit_model.specs.declared.certificate.CertLane.{CertLane}
use Rattle.audit_model.specs.declared.event.Event.{Event}
use Rattle.audit_model.specs.declared.event.Key.{Key}
use Rattle.audit_model.specs.declared.pair.Pair.{Pair}
use Rattle.audit_model.specs.Event.{key_of}
use Rattle.audit_sightings.specs.Intake.{Taken}
use Rattle.audit_placement.specs.declared.pieces.Piece.{Piece}
use Rattle.audit_placement.specs.Checks.{event_checks, first_broken}

-- the key of the last event, or the key before the events if there is none
abbrev pub last_of : Option Key → List Event → Option Key
last_of last [] = last
last_of last (event ∷ events) = last_of (Some (key_of event)) events

-- events of a lane of that pair, after one of that key
abbrev pub BreakNoRule : Taken → Option Pair → Option Key → List Event → Type 0
BreakNoRule taken pair last [] = Unit {0}
BreakNoRule taken pair last (event ∷ events) =
    (first_broken (event_checks taken false pair last event) ≡ None) × BreakNoRule taken pair (Some (key_of event)) events

abbrev pub LaneBreaksNoRule : Taken → CertLane → Type 0
LaneBreaksNoRule taken lane = BreakNoRule taken (Some (record { client = lane.client; listen = lane.listen })) None lane.events

abbrev pub PieceBreaksNoRule : Taken → Piece → Type 0
PieceBreaksNoRule taken piece = BreakNoRule taken piece.end.pair piece.end.last piece.events.now
