-- The part of a state that a later step may depend on. The rest need not be kept.
use Rattle.std.specs.Prelude.{ℕ, ◌≡◌, ◌&&◌, Bool, false, if◌then◌else◌, Option, Some, None, is_some, nat_lt}
use Rattle.audit_model.specs.declared.sighting.SightId.{SightId}
use Rattle.audit_model.specs.Window.{later}
use Rattle.audit_expiry.specs.declared.lease.Lease.{Lease}
use Rattle.audit_rules.specs.declared.table.Channel.{Channel}
use Rattle.audit_rules.specs.Allocation.{Allocation}
use Rattle.audit_server.specs.State.{State}
use Rattle.audit_segments.specs.Alike.{is_placed}

-- an arrival, unless it is older than the hold
abbrev pub kept_time : ℕ → ℕ → Option ℕ → Option ℕ
kept_time hold now None = None
kept_time hold now (Some came) = if nat_lt (later came hold) now then None else Some came

module _ (grace now : ℕ) where
  abbrev pub is_past_grace : ℕ → Bool
  is_past_grace until = nat_lt until now && nat_lt (later until grace) now

  abbrev pub kept_lease : Option Lease → Option Lease
  kept_lease None = None
  kept_lease (Some lease) = if is_past_grace lease.until then None else Some lease

  abbrev pub kept_channel : Option Channel → Option Channel
  kept_channel None = None
  kept_channel (Some channel) = if is_past_grace channel.lease.until then None else Some channel

  abbrev pub kept_leases_of : Allocation → Allocation
  kept_leases_of a = record { relayed = a.relayed; user = a.user; id = a.id; until = a.until; permissions = λ ip. kept_lease (a.permissions ip); channels = λ number. kept_channel (a.channels number) }

  abbrev pub kept_allocation : Option Allocation → Option Allocation
  kept_allocation None = None
  kept_allocation (Some a) = if is_past_grace a.until then None else Some (kept_leases_of a)

-- Allocations, permissions and channels that are not past the grace, arrivals that are not older
-- than the hold, and the departures that are owed. Of the departures that were sent only the owed
-- ones are kept.
abbrev pub kept_state : ℕ → ℕ → State → State
kept_state hold grace st = record {
  table = λ c. kept_allocation grace st.now (st.table c);
  waiting = λ s. kept_time hold st.now (st.waiting s);
  owed = st.owed;
  sent = λ t. is_some (st.owed t);
  now = st.now;
}

-- a departure that is not placed was sent exactly if it is owed
abbrev pub SentAreOwed : (ℕ → ℕ) → State → Type 0
SentAreOwed placed st = (t : SightId) → is_placed placed t ≡ false → st.sent t ≡ is_some (st.owed t)
