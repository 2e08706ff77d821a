use Rattle.std.proofs.Common.{◌≡◌, ◌++◌, length}
use Rattle.std.specs.List.{flat_map}
use Rattle.audit_cert.specs.Spelling.{event_line}
use Rattle.audit_cert.specs.Pieces.{piece_text}
use Rattle.audit_cert.proofs.pieces.add_events.Given as goal

-- the pieces so far, and then the events that are left, have the lines
abbrev pub invariant-parts : goal.invariant-parts
invariant-parts l = flat_map piece_text l.pieces.items ++ flat_map event_line l.rest ≡ flat_map piece_text l.fn.pieces.items ++ flat_map event_line l.events

abbrev pub decreases-parts : goal.decreases-parts
decreases-parts l = length l.rest
