-- What is carried over a cut, as the cut that it stands for.
use Rattle.std.specs.Prelude.{ℕ, Bool, List, [], ◌∷◌, map, Option, Some, None, if◌then◌else◌, is_some, slice_index_or}
use Rattle.std.specs.Ordering.{nat_cmp}
use Rattle.audit_expiry.specs.Leases.{value_at}
use Rattle.audit_model.specs.declared.pair.Pair.{Pair}
use Rattle.audit_model.specs.declared.sighting.SightId.{SightId}
use Rattle.audit_model.specs.Sames.{same_client, same_sight}
use Rattle.audit_rules.specs.Allocation.{Allocation}
use Rattle.audit_server.specs.State.{State}
use Rattle.audit_segments.specs.Cut.{Cut}
use Rattle.audit_cuts.specs.declared.carried.Came.{Came}
use Rattle.audit_cuts.specs.declared.carried.Carried.{Carried}
use Rattle.audit_cuts.specs.declared.carried.Client.{Client}
use Rattle.audit_cuts.specs.declared.carried.Interface.{Interface}

abbrev pub allocation_of : Client → Allocation
allocation_of client = record {
  relayed = client.relayed;
  user = client.user;
  id = client.id;
  until = client.lease.until;
  permissions = value_at nat_cmp client.permissions.items;
  channels = value_at nat_cmp client.channels.items;
}

-- the value of the first entry that has this key
abbrev pub first_value : {E K V : Type 0} → (K → K → Bool) → (E → K) → (E → V) → List E → K → Option V
first_value same key value [] k = None
first_value same key value (e ∷ entries) k = if same (key e) k then Some (value e) else first_value same key value entries k

abbrev pub allocation_in : List Client → Pair → Option Allocation
allocation_in clients c = first_value same_client (λ (client : Client). client.pair) allocation_of clients c

abbrev pub moment_in : List Came → SightId → Option ℕ
moment_in times s = first_value same_sight (λ (came : Came). came.sight) (λ (came : Came). came.moment) times s

-- how many sightings of the interface come before index 0, and how many are placed from there on
abbrev pub base_in : List Interface → ℕ → ℕ
base_in interfaces iface = slice_index_or (map (λ (i : Interface). i.base) interfaces) iface 0

abbrev pub placed_in : List Interface → ℕ → ℕ
placed_in interfaces iface = slice_index_or (map (λ (i : Interface). i.placed) interfaces) iface 0

-- the state; of the departures that were sent it has those that are owed
abbrev pub state_in : Carried → State
state_in carried = record {
  table = allocation_in carried.clients.items;
  waiting = moment_in carried.waiting.items;
  owed = moment_in carried.owed.items;
  sent = λ t. is_some (moment_in carried.owed.items t);
  now = carried.moment;
}

-- the cut, by ids that count from the bases
abbrev pub cut_in : Carried → (SightId → Bool) → Cut
cut_in carried excluded = record { state = state_in carried; placed = placed_in carried.interfaces.items; excluded = excluded }
