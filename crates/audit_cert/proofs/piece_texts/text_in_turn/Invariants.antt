use Rattle.std.proofs.Common.{◌≡◌, take}
use Rattle.std.specs.List.{flat_map}
use Rattle.audit_cert.specs.Pieces.{piece_text}
use Rattle.audit_cert.proofs.piece_texts.text_in_turn.Given as goal

-- the text of the pieces so far
abbrev pub invariant-pieces : goal.invariant-pieces
invariant-pieces l = l.text.items ≡ flat_map piece_text (take l.piece-index l.pieces)
