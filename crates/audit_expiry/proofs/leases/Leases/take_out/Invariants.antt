use Rattle.std.proofs.Common.{List}
use Rattle.audit_expiry.specs.Growth.{Grew}
use Rattle.audit_expiry.proofs.leases.Leases.take_out.Given as goal

-- what grew by all that was added has grown by what is left of that
abbrev pub invariant-loop-last : goal.invariant-loop-last
invariant-loop-last g l =
    (before : List (g.row.K.Denot × g.row.V.Denot)) (value : g.row.V.Denot) → Grew g.K.Ord.cmp value before l.fn.added.items l.fn.self
    → Grew g.K.Ord.cmp value before l.added.items l.self-inside.values.entries

abbrev pub decreases-loop-last : goal.decreases-loop-last
decreases-loop-last g l = goal.left-loop-last g l
