-- An act of the code as the definitions see it.
use Rattle.std.specs.Prelude.{ℕ, Bool, ◌&&◌, List, Option, option_map, find}
use Rattle.std.specs.Ordering.{nat_cmp}
use Rattle.std.specs.Str.{bytes_eq}
use Rattle.audit_expiry.specs.Leases.{value_at}
use Rattle.audit_model.specs.declared.policy.Policy.{Policy}
use Rattle.audit_model.specs.declared.sighting.Sighting.{Sighting}
use Rattle.audit_keys.specs.Keys.{KeyFor}
use Rattle.audit_rules.specs.declared.acts.Act.{Act}
use Rattle.audit_rules.specs.declared.table.LaneTable.{LaneTable}
use Rattle.audit_rules.specs.declared.credentials.CredRow.{CredRow}
use Rattle.audit_rules.specs.declared.table.Allocation as declared
use Rattle.audit_rules.specs.Allocation.{Allocation}
use Rattle.audit_rules.specs.Situation.{Situation}

-- the keys of the first row of the user and the realm
abbrev pub is_of : List ℕ → List ℕ → CredRow → Bool
is_of user realm row = bytes_eq row.user.now user && bytes_eq row.realm.now realm

abbrev pub key_in : List CredRow → KeyFor
key_in rows user realm = option_map (λ row. row.key) (find (is_of user realm) rows)

abbrev pub seen : declared.Allocation → Allocation
seen a = record {
  relayed = a.relayed;
  user = a.user;
  id = a.id;
  until = a.lease.until;
  permissions = value_at nat_cmp a.permissions;
  channels = value_at nat_cmp a.channels;
}

-- the situation of an act at this moment
abbrev pub situation_of : LaneTable → List CredRow → Policy → Sighting → Sighting → ℕ → Situation
situation_of table users policy arrives leaves moment = record {
  client = table.client;
  listen = table.listen;
  policy = policy;
  key_for = key_in users;
  allocation = option_map seen table.allocation;
  arrives = arrives;
  leaves = leaves;
  moment = moment;
}

abbrev pub situation : Act → Situation
situation act = situation_of act.table.now act.users.now act.policy.now act.arrives.now act.leaves.now act.moment
