use Rattle.std.proofs.Common.{◌≡◌, take}
use Rattle.std.specs.List.{flat_map}
use Rattle.audit_cert.specs.Spelling.{lane_lines}
use Rattle.audit_cert.specs.Pieces.{piece_text}
use Rattle.audit_cert.proofs.pieces.pieces_of.Given as goal

-- the pieces have the lines of the lanes so far
abbrev pub invariant-lanes : goal.invariant-lanes
invariant-lanes l = flat_map piece_text l.pieces.items ≡ flat_map lane_lines (take l.lane-index l.lanes)
