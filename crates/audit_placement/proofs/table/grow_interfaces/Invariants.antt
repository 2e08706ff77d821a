use Rattle.std.proofs.Common.{◌≡◌, ◌≤◌, length}
use Rattle.audit_model.specs.declared.sighting.SightId.{SightId}
use Rattle.audit_placement.specs.Table.{table_or}
use Rattle.audit_placement.proofs.table.grow_interfaces.Given as goal

-- each interface so far has a values, and each place is as it was
abbrev pub invariant-interfaces : goal.invariant-interfaces
invariant-interfaces g l = record {
  by_interface : l.iface ≤ length l.by_interface.items;
  same : (sight : SightId) → table_or l.blank l.by_interface.items sight ≡ table_or l.blank l.fn.by_interface.items sight;
}
