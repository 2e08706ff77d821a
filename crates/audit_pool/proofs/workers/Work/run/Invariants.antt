use Rattle.std.proofs.Common.{◌≡◌, ◌+◌, length}
use Rattle.audit_pool.proofs.workers.Work.run.Given as goal

abbrev pub invariant-lanes : goal.invariant-lanes
invariant-lanes g l = (l.seat.number ≡ l.fn.seat.number) × (l.seat.claims + length l.fn.seat.receipts ≡ length l.seat.receipts + l.fn.seat.claims)
