use Rattle.std.proofs.Common.{map, take, ◌++◌}
use Rattle.std.specs.List.{concat}
use Rattle.sha2.specs.Hashers.{Holds256}
use Rattle.sha2.specs.Sha256.{sha256}
use Rattle.audit_keys.specs.Hmac.{xored, block_of}
use Rattle.audit_keys.proofs.hmac.hmac_sha256.Given as goal

-- the inner hasher holds the padded key and the pieces so far
abbrev pub invariant-loop-piece : goal.invariant-loop-piece
invariant-loop-piece l = Holds256 l.inner (xored 0x36 (block_of sha256 l.key) ++ concat (map (λ piece. piece.now) (take l.piece-index l.pieces)))
