-- When no later step distinguishes two states of a server.
use Rattle.std.specs.Prelude.{ℕ, ◌≡◌, ◌<◌, ◌⊎◌, Bool, false, Option, Some, None, nat_lt}
use Rattle.audit_model.specs.declared.pair.Pair.{Pair}
use Rattle.audit_model.specs.declared.sighting.SightId.{SightId}
use Rattle.audit_model.specs.Window.{later}
use Rattle.audit_server.specs.State.{State}
use Rattle.audit_segments.specs.PastGrace.{AreAlikeEntries}

-- no arrival, or one that is older than the hold: no act may use it any more
abbrev pub IsTooOld : ℕ → ℕ → Option ℕ → Type 0
IsTooOld hold now None = Unit {0}
IsTooOld hold now (Some came) = later came hold < now

abbrev pub AreAlikeTimes : ℕ → ℕ → Option ℕ → Option ℕ → Type 0
AreAlikeTimes hold now one other = (one ≡ other) ⊎ (IsTooOld hold now one × IsTooOld hold now other)

-- whether a sighting is among the first ones of its interface, as many as are placed
abbrev pub is_placed : (ℕ → ℕ) → SightId → Bool
is_placed placed s = nat_lt s.index (placed s.iface)

-- Both states are at the same moment, and each client has equal allocations in them, except for
-- what is past the grace. Of the sightings that are not excluded, the same arrivals wait, except
-- for those that are older than the hold; the same departures are owed; and of those that are not
-- placed the same were sent.
pub record AreAlike (hold grace : ℕ) (placed : ℕ → ℕ) (excluded : SightId → Bool) (one other : State) : Type 0 where
  pub now : one.now ≡ other.now
  pub table : (c : Pair) → AreAlikeEntries grace one.now (one.table c) (other.table c)
  pub waiting : (s : SightId) → excluded s ≡ false → AreAlikeTimes hold one.now (one.waiting s) (other.waiting s)
  pub owed : (t : SightId) → excluded t ≡ false → one.owed t ≡ other.owed t
  pub sent : (t : SightId) → excluded t ≡ false → is_placed placed t ≡ false → one.sent t ≡ other.sent t
