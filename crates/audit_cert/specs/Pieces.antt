-- The lines of a piece of a lane.
use Rattle.std.specs.Prelude.{ℕ, List, [], ◌++◌, Option, Some, None}
use Rattle.std.specs.Borrow.{Bor}
use Rattle.std.specs.List.{flat_map}
use Rattle.audit_model.specs.declared.certificate.CertLane.{CertLane}
use Rattle.audit_cert.specs.declared.pieces.Piece.{Piece}
use Rattle.audit_cert.specs.Spelling.{lane_line, event_line}

-- the first line of the lane that a piece opens
abbrev pub opening : Option (Bor CertLane) → List ℕ
opening None = []
opening (Some lane) = lane_line lane.now

-- that line, and the lines of the events
abbrev pub piece_text : Piece → List ℕ
piece_text piece = opening piece.opens ++ flat_map event_line piece.events.now
