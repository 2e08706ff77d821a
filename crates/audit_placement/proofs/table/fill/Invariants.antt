use Rattle.std.proofs.Common.{◌≡◌, ◌++◌, ◌-◌, ℕ, vec_len}
use Rattle.std.specs.Prelude.{replicate}
use Rattle.audit_placement.proofs.table.fill.Given as goal

-- so many more values stand behind the others
abbrev pub invariant-room : goal.invariant-room
invariant-room g l = (more : ℕ) × (l.values.items ≡ l.fn.values.items ++ replicate more l.blank)

abbrev pub decreases-room : goal.decreases-room
decreases-room g l = l.count - vec_len l.values
