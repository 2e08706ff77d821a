use Rattle.std.proofs.Common.{map, take, ◌++◌}
use Rattle.std.specs.List.{concat}
use Rattle.sha1.specs.Sha1.{Holds, sha1}
use Rattle.audit_keys.specs.Hmac.{xored, block_of}
use Rattle.audit_keys.proofs.hmac.hmac_sha1.Given as goal

-- the inner hasher holds the padded key and the pieces so far
abbrev pub invariant-loop-piece : goal.invariant-loop-piece
invariant-loop-piece l = Holds l.inner (xored 0x36 (block_of sha1 l.key) ++ concat (map (λ piece. piece.now) (take l.piece-index l.pieces)))
