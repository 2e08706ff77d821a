use Rattle.std.proofs.Common.{◌≡◌, ◌⊎◌, ℕ, true, false, length}
use Rattle.std.specs.Prelude.{Contains}
use Rattle.audit_stun.specs.Parts.{parts_of}
use Rattle.audit_rules.specs.Values.{peer_ips_of}
use Rattle.audit_faults.specs.declared.keyed.Keyed.{Keyed}
use Rattle.audit_faults.specs.Keyed.{placed_as}
use Rattle.audit_faults.specs.Leased.{permission_key}
use Rattle.audit_faults.proofs.Listed.{IsToCome}
use Rattle.audit_faults.proofs.Naming.{names_with}
use Rattle.audit_faults.proofs.requests.add_permissions.Given as goal

-- each peer that is named has its place, or is still to come
abbrev pub invariant-peers : goal.invariant-peers
invariant-peers l = record {
  kept : (one : Keyed) → Contains l.fn.keyed.items one → Contains l.keyed.items one;
  here : (ip : ℕ) → names_with ip false (peer_ips_of (parts_of l.request)) ≡ true → Contains l.keyed.items (placed_as (permission_key l.sighting.from ip) l.sighting.id l.sighting) ⊎ IsToCome ip l.peers;
}

abbrev pub decreases-peers : goal.decreases-peers
decreases-peers l = length l.peers
