use Rattle.std.proofs.Common.{◌≡◌, ◌<◌, ◌^◌, take}
use Rattle.watch_ring.specs.Names.{digits}
use Rattle.watch_ring.proofs.digits.read_digits.Given as goal

-- the bytes so far are the digits of the number so far
abbrev pub invariant-loop-byte : goal.invariant-loop-byte
invariant-loop-byte l = record { small : l.number < 10 ^ l.byte-index; so_far : take l.byte-index l.bytes ≡ digits l.byte-index l.number }
