-- Which packets a reason may exclude.
use Rattle.std.specs.Prelude.{ℕ, ◌*◌, ◌-◌, min, Bool, true, false, not, ◌&&◌, ◌||◌, ◌==◌, Option, Some, None, nat_lt, nat_le}
use Rattle.audit_model.specs.declared.address.Addr.{Addr}
use Rattle.audit_model.specs.declared.pair.Pair.{Pair}
use Rattle.audit_model.specs.declared.sighting.Side.{Side}
use Rattle.audit_model.specs.declared.sighting.Side.TheVariants.{Arrives, Leaves}
use Rattle.prep_cut.specs.declared.datagram.Datagram.{Datagram}
use Rattle.prep_cut.specs.declared.reason.Reason.{Reason}
use Rattle.prep_cut.specs.declared.reason.Reason.TheVariants as reasons
use Rattle.prep_cut.specs.declared.stated.Stated.{Stated}
use Rattle.prep_cut.specs.declared.allocations.Allocations.{Allocations}
use Rattle.prep_cut.specs.Allocating.{is_shown}
use Rattle.prep_cut.specs.Lasting.{is_its, is_leased, is_tenant}
use Rattle.prep_cut.specs.Releasing.{is_released}
use Rattle.prep_cut.specs.Sending.{is_sender}

abbrev pub same : Addr → Addr → Bool
same a b = (a.ip == b.ip) && (a.port == b.port)

-- before the stated moment
abbrev pub is_early : Option ℕ → ℕ → Bool
is_early None stamp = false
is_early (Some since) stamp = nat_lt stamp since

-- after the stated moment
abbrev pub is_late : Option ℕ → ℕ → Bool
is_late None stamp = false
is_late (Some until) stamp = nat_lt until stamp

abbrev pub is_between : Side → Datagram → Pair → Bool
is_between Arrives datagram pair = same datagram.from pair.client && same datagram.to pair.listen
is_between Leaves datagram pair = same datagram.from pair.listen && same datagram.to pair.client

-- between a client and its listen address
abbrev pub is_of_pair : Datagram → Pair → Bool
is_of_pair datagram pair = is_between datagram.side datagram pair

abbrev pub is_on_side : Side → Datagram → Addr → Bool
is_on_side Arrives datagram relayed = same datagram.to relayed
is_on_side Leaves datagram relayed = same datagram.from relayed

-- to or from an address of the service
abbrev pub is_at : Datagram → Addr → Bool
is_at datagram relayed = is_on_side datagram.side datagram relayed

abbrev pub is_leaving : Side → Bool → Bool
is_leaving Arrives is_inside = false
is_leaving Leaves is_inside = not is_inside

-- it leaves the service
abbrev pub is_departure : Datagram → Bool
is_departure datagram = is_leaving datagram.side datagram.is_inside

-- If the server started with the captures, there is no client from before. Without clients over
-- TCP, TLS, DTLS or IPv6 there is no address of such a client, and no DTLS.
abbrev pub is_stated : Stated → Reason → Bool
is_stated stated reasons.BeforeSince = true
is_stated stated (reasons.Client pair) = not stated.is_from_start
is_stated stated (reasons.Answer pair) = not stated.is_from_start
is_stated stated (reasons.AddressOf relayed tenure pair) = not stated.is_from_start
is_stated stated (reasons.AddressTold relayed tenure client) = not stated.has_no_tcp
is_stated stated (reasons.Address relayed tenure) = not stated.has_no_tcp
is_stated stated (reasons.Released pair relayed moment) = nat_lt 0 stated.released_ms
is_stated stated (reasons.Dtls pair) = not stated.has_no_tcp
is_stated stated (reasons.Inner pair peer) = not stated.keeps_inner
is_stated stated (reasons.Inside from to) = not stated.keeps_inner
is_stated stated reasons.Edge = not stated.is_from_start
is_stated stated reasons.AfterUntil = true

-- the datagram is of the client or the address that the reason names
abbrev pub is_named : Reason → Datagram → Bool
is_named reasons.BeforeSince datagram = true
is_named (reasons.Client pair) datagram = is_of_pair datagram pair
is_named (reasons.Answer pair) datagram = is_of_pair datagram pair
is_named (reasons.AddressOf relayed tenure pair) datagram = is_at datagram relayed
is_named (reasons.AddressTold relayed tenure client) datagram = is_at datagram relayed
is_named (reasons.Address relayed tenure) datagram = is_at datagram relayed
is_named (reasons.Released pair relayed moment) datagram = is_at datagram relayed || (datagram.is_data && is_of_pair datagram pair)
is_named (reasons.Dtls pair) datagram = datagram.is_dtls && is_of_pair datagram pair
is_named (reasons.Inner pair peer) datagram = is_of_pair datagram pair
is_named (reasons.Inside from to) datagram = datagram.is_inside && (same datagram.from from && same datagram.to to)
is_named reasons.Edge datagram = is_departure datagram
is_named reasons.AfterUntil datagram = true

-- after a deletion, by at most the stated number of milliseconds
abbrev pub is_behind : Stated → ℕ → ℕ → Bool
is_behind stated moment stamp = nat_lt moment stamp && nat_le (stamp - moment) (min (stated.released_ms * 1000000) 18446744073709551615)

abbrev pub is_in_time : Side → Stated → ℕ → ℕ → Bool
is_in_time Arrives stated moment stamp = true
is_in_time Leaves stated moment stamp = is_behind stated moment stamp

abbrev pub end_on : Side → Addr → Addr → Addr
end_on Arrives from to = to
end_on Leaves from to = from

-- the end in the service
abbrev pub own_end : Datagram → Addr
own_end datagram = end_on datagram.side datagram.from datagram.to

-- the other end
abbrev pub far_end : Datagram → Addr
far_end datagram = end_on datagram.side datagram.to datagram.from

-- no client has a lease of its address
abbrev pub is_apart : Allocations → Datagram → Bool
is_apart allocations datagram = not (is_leased allocations (own_end datagram) datagram.stamp)

-- it is not between the service and a client that was granted an allocation before
abbrev pub is_free : Allocations → Datagram → Bool
is_free allocations datagram = not (is_tenant allocations (far_end datagram) (own_end datagram) datagram.stamp)

-- Only `inside` excludes something at an address of which the captures show a lease. After a
-- client's grant, only `inner` and `released` exclude something of it, and only data. For
-- `released`, the deletion that the reason names is recorded, a departure is in time, and the
-- address was the client's.
abbrev pub is_due : Stated → Allocations → Reason → Datagram → Bool
is_due stated allocations (reasons.Released pair relayed moment) datagram =
    is_released allocations (record { client = pair.client; listen = pair.listen; moment = moment })
    && (is_in_time datagram.side stated moment datagram.stamp && (is_its allocations pair relayed moment && (is_apart allocations datagram && (is_free allocations datagram || datagram.is_data))))
is_due stated allocations (reasons.Client pair) datagram = is_apart allocations datagram && is_free allocations datagram
is_due stated allocations (reasons.Answer pair) datagram = is_apart allocations datagram && is_free allocations datagram
is_due stated allocations (reasons.Dtls pair) datagram = is_apart allocations datagram && is_free allocations datagram
is_due stated allocations (reasons.AddressOf relayed tenure pair) datagram = is_apart allocations datagram && is_free allocations datagram
is_due stated allocations (reasons.AddressTold relayed tenure client) datagram = is_apart allocations datagram && is_free allocations datagram
is_due stated allocations (reasons.Address relayed tenure) datagram = is_apart allocations datagram && is_free allocations datagram
is_due stated allocations reasons.Edge datagram = is_apart allocations datagram && is_free allocations datagram
is_due stated allocations (reasons.Inner pair peer) datagram = is_apart allocations datagram && datagram.is_data
is_due stated allocations other datagram = true

-- the client that the reason names sends something in the captures
abbrev pub is_heard : Allocations → Reason → Bool
is_heard allocations (reasons.Client pair) = is_sender allocations pair.client pair.listen
is_heard allocations (reasons.Answer pair) = is_sender allocations pair.client pair.listen
is_heard allocations (reasons.Released pair relayed moment) = is_sender allocations pair.client pair.listen
is_heard allocations (reasons.Dtls pair) = is_sender allocations pair.client pair.listen
is_heard allocations (reasons.Inner pair peer) = is_sender allocations pair.client pair.listen
is_heard allocations other = true

abbrev pub may_leave_datagram : Stated → Allocations → Reason → Option Datagram → Bool
may_leave_datagram stated allocations reason None = false
may_leave_datagram stated allocations reason (Some datagram) =
    is_stated stated reason && (is_due stated allocations reason datagram && ((is_named reason datagram && is_heard allocations reason) && not (is_shown allocations datagram)))

-- The reason may exclude a packet of this stamp, which contains this datagram or none. Except by
-- the stated moments, it excludes no Allocate that the captures show with its success response, and
-- nothing for a client that sends nothing in all of the captures.
abbrev pub may_leave_packet : Stated → Allocations → Reason → ℕ → Option Datagram → Bool
may_leave_packet stated allocations reasons.BeforeSince stamp datagram = is_early stated.since stamp
may_leave_packet stated allocations reasons.AfterUntil stamp datagram = is_late stated.until stamp
may_leave_packet stated allocations (reasons.Client pair) stamp datagram = may_leave_datagram stated allocations (reasons.Client pair) datagram
may_leave_packet stated allocations (reasons.Answer pair) stamp datagram = may_leave_datagram stated allocations (reasons.Answer pair) datagram
may_leave_packet stated allocations (reasons.AddressOf relayed tenure pair) stamp datagram = may_leave_datagram stated allocations (reasons.AddressOf relayed tenure pair) datagram
may_leave_packet stated allocations (reasons.AddressTold relayed tenure client) stamp datagram = may_leave_datagram stated allocations (reasons.AddressTold relayed tenure client) datagram
may_leave_packet stated allocations (reasons.Address relayed tenure) stamp datagram = may_leave_datagram stated allocations (reasons.Address relayed tenure) datagram
may_leave_packet stated allocations (reasons.Released pair relayed moment) stamp datagram = may_leave_datagram stated allocations (reasons.Released pair relayed moment) datagram
may_leave_packet stated allocations (reasons.Dtls pair) stamp datagram = may_leave_datagram stated allocations (reasons.Dtls pair) datagram
may_leave_packet stated allocations (reasons.Inner pair peer) stamp datagram = may_leave_datagram stated allocations (reasons.Inner pair peer) datagram
may_leave_packet stated allocations (reasons.Inside from to) stamp datagram = may_leave_datagram stated allocations (reasons.Inside from to) datagram
may_leave_packet stated allocations reasons.Edge stamp datagram = may_leave_datagram stated allocations reasons.Edge datagram
