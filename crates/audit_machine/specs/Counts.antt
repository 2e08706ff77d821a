-- Counts by interface, as contracts see them.
use Rattle.std.specs.Prelude.{ℕ, unwrap_or}
use Rattle.std.specs.BTreeMap.{get}
use Rattle.std.specs.Ordering.{nat_cmp}
use Rattle.audit_machine.specs.declared.counts.Counts.{Counts}

-- the count of an interface, 0 if it has none
abbrev pub count_of : Counts → ℕ → ℕ
count_of counts iface = unwrap_or (get nat_cmp counts.counts iface) 0
