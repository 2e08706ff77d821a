use Rattle.std.proofs.Common.{◌≤◌, ◌+◌, [], length}
use Rattle.audit_pcapng.specs.Stretches.{Consumes}
use Rattle.audit_pcapng.proofs.blocks.next_packet.Given as goal

abbrev pub invariant-loop : goal.invariant-loop
invariant-loop l = record {
  consumed : Consumes l.fn.scope l.bytes [] l.scope [] l.rest;
  fits : length l.rest + l.counter ≤ length l.bytes;
}
