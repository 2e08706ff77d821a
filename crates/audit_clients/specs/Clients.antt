-- The clients in captures, in the order in which they are first seen.
use Rattle.std.specs.Prelude.{ℕ, ◌+◌, Bool, false, List, [], ◌∷◌, ◌++◌, take, drop, length, map, filter, position, Option, slice_index_or}
use Rattle.indexmap.specs.IndexSet.{insert_all}
use Rattle.audit_model.specs.declared.address.Addr.{Addr}
use Rattle.audit_model.specs.declared.policy.Policy.{Policy}
use Rattle.audit_model.specs.declared.sighting.Sighting.{Sighting}
use Rattle.audit_model.specs.declared.sighting.Side.{Side}
use Rattle.audit_model.specs.declared.sighting.Side.TheVariants.{Arrives, Leaves}
use Rattle.audit_model.specs.declared.certificate.TheConstants.{MAX_LANES}
use Rattle.audit_model.specs.Lanes.{same_pair}
use Rattle.audit_model.specs.Policy.{listens}
use Rattle.audit_sightings.specs.Intake.{Taken}

-- a client and a listen address
abbrev pub Pair : Type 0
Pair = Addr × Addr

abbrev pub same : Pair → Pair → Bool
same p q = same_pair p.0 p.1 q.0 q.1

-- the known pairs, and after them each of the others once, in the order of its first occurrence
abbrev pub joined : List Pair → List Pair → List Pair
joined known pairs = insert_all same known pairs

abbrev pub arrives : Side → Bool → Bool
arrives Arrives here = here
arrives Leaves here = false

-- the datagram arrives at a listen address
abbrev pub is_from_client : Policy → Sighting → Bool
is_from_client policy sighting = arrives sighting.side (listens policy sighting.to)

-- the ends of the datagrams that arrive at a listen address
abbrev pub pairs_of : Policy → List Sighting → List Pair
pairs_of policy row = map (λ sighting. (sighting.from, sighting.to)) (filter (is_from_client policy) row)

-- the sightings that weren't read yet, interface by interface from this one on
abbrev pub unseen : List ℕ → ℕ → List (List Sighting) → List Sighting
unseen looked iface [] = []
unseen looked iface (row ∷ rows) = drop (slice_index_or looked iface 0) row ++ unseen looked (iface + 1) rows

-- the known pairs, and those of the sightings that weren't read yet
abbrev pub with_new : List ℕ → Taken → List Pair → List Pair
with_new looked taken known = joined known (pairs_of taken.policy (unseen looked 0 taken.interfaces))

abbrev pub row_lengths : Taken → List ℕ
row_lengths taken = map (λ row. length row) taken.interfaces

-- the number of a pair's lane: its index among the pairs, of which the first 65,536 have lanes
abbrev pub lane_in : List Pair → Pair → Option ℕ
lane_in pairs pair = position (same pair) (take MAX_LANES pairs)

-- the clients of a certificate's lanes: those of all sightings, in the order of interface and
-- index, at most 65,536
abbrev pub clients_of : Taken → List Pair
clients_of taken = take MAX_LANES (with_new [] taken [])
