-- Leases by the recorded events: granted, refreshed, deleted.
use Rattle.std.specs.Prelude.{ℕ, ◌-◌, ◌*◌, Bool, true, false, not, ◌&&◌, ◌||◌, ◌==◌, nat_le}
use Rattle.std.specs.BTreeSet.{contains}
use Rattle.std.specs.List.{list_any}
use Rattle.audit_model.specs.declared.address.Addr.{Addr}
use Rattle.audit_model.specs.declared.pair.Pair.{Pair}
use Rattle.prep_cut.specs.declared.allocations.Allocations.{Allocations}
use Rattle.prep_cut.specs.declared.lease.Act.{Act}
use Rattle.prep_cut.specs.declared.lease.Act.TheVariants as acts
use Rattle.prep_cut.specs.declared.lease.Event.{Event}
use Rattle.prep_cut.specs.Allocating.{transaction_cmp}
use Rattle.prep_cut.specs.Noted.{events_at}

abbrev pub equals : Addr → Addr → Bool
equals a b = (a.ip == b.ip) && (a.port == b.port)

-- of the client of a grant
abbrev pub is_of_client : Event → Event → Bool
is_of_client grant event = equals event.client grant.client && equals event.listen grant.listen

abbrev pub ends_it : Act → Bool
ends_it (acts.Grants relayed tid) = false
ends_it acts.Renews = false
ends_it acts.Ends = true

abbrev pub renews_it : Act → Bool
renews_it (acts.Grants relayed tid) = false
renews_it acts.Renews = true
renews_it acts.Ends = false

abbrev pub grants_this : Addr → Act → Bool
grants_this relayed (acts.Grants granted tid) = equals granted relayed
grants_this relayed acts.Renews = false
grants_this relayed acts.Ends = false

-- within the lifetime of the success response
abbrev pub is_within : ℕ → Event → Bool
is_within stamp event = nat_le event.moment stamp && nat_le (stamp - event.moment) (event.said.seconds * 1000000000)

-- after the grant, and up to a moment
abbrev pub is_since : Event → ℕ → Event → Bool
is_since grant stamp event = is_of_client grant event && (nat_le grant.moment event.moment && nat_le event.moment stamp)

abbrev pub ends : Event → ℕ → Event → Bool
ends grant stamp event = ends_it event.said.act && is_since grant stamp event

abbrev pub renews : Event → ℕ → Event → Bool
renews grant stamp event = renews_it event.said.act && (is_since grant stamp event && is_within stamp event)

abbrev pub is_asked_by : Allocations → Event → Act → Bool
is_asked_by allocations event (acts.Grants relayed tid) = contains transaction_cmp allocations.asked (record { client = event.client; listen = event.listen; tid = tid })
is_asked_by allocations event acts.Renews = false
is_asked_by allocations event acts.Ends = false

-- a grant up to a moment, whose request is recorded
abbrev pub has_begun : Allocations → ℕ → Event → Bool
has_begun allocations stamp event = is_asked_by allocations event event.said.act && nat_le event.moment stamp

abbrev pub is_renewed : Allocations → ℕ → Event → Bool
is_renewed allocations stamp grant = list_any (renews grant stamp) (events_at allocations.leases.clients grant.client grant.listen)

-- the grant's own lifetime has not expired, or that of a refresh
abbrev pub lasts : Allocations → ℕ → Event → Bool
lasts allocations stamp grant = is_within stamp grant || is_renewed allocations stamp grant

abbrev pub is_ended : Allocations → ℕ → Event → Bool
is_ended allocations stamp grant = list_any (ends grant stamp) (events_at allocations.leases.clients grant.client grant.listen)

abbrev pub covers : Allocations → ℕ → Event → Bool
covers allocations stamp grant = has_begun allocations stamp grant && (lasts allocations stamp grant && not (is_ended allocations stamp grant))

-- a client has a lease of the address at this moment, which the captures show
abbrev pub is_leased : Allocations → Addr → ℕ → Bool
is_leased allocations relayed stamp = list_any (covers allocations stamp) (events_at allocations.leases.addresses relayed relayed)

-- the captures show that the client was granted an allocation up to this moment
abbrev pub is_tenant : Allocations → Addr → Addr → ℕ → Bool
is_tenant allocations client listen stamp = list_any (has_begun allocations stamp) (events_at allocations.leases.clients client listen)

-- and that it was granted this address
abbrev pub was_granted : Allocations → Pair → Addr → ℕ → Bool
was_granted allocations pair relayed moment =
    list_any (λ event. has_begun allocations moment event && grants_this relayed event.said.act) (events_at allocations.leases.clients pair.client pair.listen)

-- The address was granted to the client, or the client is from before the captures.
abbrev pub is_its : Allocations → Pair → Addr → ℕ → Bool
is_its allocations pair relayed moment = not (is_tenant allocations pair.client pair.listen moment) || was_granted allocations pair relayed moment
