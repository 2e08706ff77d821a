-- The client and the listen address of each lane, as a set of pairs.
use Rattle.std.specs.Prelude.{Bool}
use Rattle.std.specs.declared.cmp.Ordering.{Ordering}
use Rattle.std.specs.Ordering.{nat_cmp, ordering_then}
use Rattle.std.specs.BTreeSet.{contains}
use Rattle.audit_model.specs.declared.address.Addr.{Addr}
use Rattle.audit_model.specs.declared.lane_pairs.LanePairs.{LanePairs}

abbrev pub addr_cmp : Addr → Addr → Ordering
addr_cmp a b = ordering_then (nat_cmp a.ip b.ip) (nat_cmp a.port b.port)

-- pairs in the set's order: by the client, then by the listen address
abbrev pub pair_cmp : Addr × Addr → Addr × Addr → Ordering
pair_cmp p q = ordering_then (addr_cmp p.0 q.0) (addr_cmp p.1 q.1)

-- whether the set has this client at this listen address
abbrev pub has : LanePairs → Addr → Addr → Bool
has pairs client listen = contains pair_cmp pairs.set (client, listen)
