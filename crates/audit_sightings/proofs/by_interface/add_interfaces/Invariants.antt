use Rattle.std.proofs.Common.{◌≡◌, ℕ, ◌+◌, ◌-◌, ◌≤◌, ◌++◌, [], max, length, vec_len}
use Rattle.std.specs.Prelude.{replicate}
use Rattle.audit_sightings.proofs.by_interface.add_interfaces.Given as goal

abbrev pub invariant-room : goal.invariant-room
invariant-room l = record {
  few : length l.interfaces.items ≤ max (length l.fn.interfaces.items) (l.iface + 1);
  empty : (more : ℕ) × (l.interfaces.items ≡ l.fn.interfaces.items ++ replicate more []);
}

abbrev pub decreases-room : goal.decreases-room
decreases-room l = l.iface + 1 - vec_len l.interfaces
