use Rattle.std.proofs.Common.{◌≡◌, map, take, drop, ◌++◌, bit_xor}
use Rattle.audit_keys.proofs.hmac.padded.Given as goal

-- the bytes so far have the pad upon them
abbrev pub invariant-loop-byte : goal.invariant-loop-byte
invariant-loop-byte l = l.byte-items ≡ map (λ b. bit_xor b l.pad) (take l.byte-index l.block) ++ drop l.byte-index l.block
