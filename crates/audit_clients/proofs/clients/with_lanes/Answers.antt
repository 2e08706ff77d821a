use Rattle.std.proofs.Common.{arith, sym, length-take}
use Rattle.std.proofs.lemmas.List.{take_all}
use Rattle.audit_clients.proofs.clients.with_lanes.Goals as goal

pub slice_bounds-result-end : goal.slice_bounds-result-end
slice_bounds-result-end c = omega (arith, length-take 65536 c.args.pairs.now, c.if-pairs-le-MAX_LANES.false)

pub returns-then-pairs-le-MAX_LANES : goal.returns-then-pairs-le-MAX_LANES
returns-then-pairs-le-MAX_LANES c = sym (take_all 65536 c.args.pairs.now c.if-pairs-le-MAX_LANES.true)
