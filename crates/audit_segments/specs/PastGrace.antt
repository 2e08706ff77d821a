-- When no act from a moment on distinguishes the leases of two clients: they are equal except for
-- allocations, permissions (RFC 8656, sections 6 and 9) and channels (section 12) that are past the
-- grace.
use Rattle.std.specs.Prelude.{ℕ, ◌≡◌, ◌<◌, ◌⊎◌, Option, Some, None}
use Rattle.audit_model.specs.Window.{later}
use Rattle.audit_expiry.specs.declared.lease.Lease.{Lease}
use Rattle.audit_rules.specs.declared.table.Channel.{Channel}
use Rattle.audit_rules.specs.Allocation.{Allocation}

module _ (grace : ℕ) where
  -- the moment is after the lease's end, and after its end plus the grace
  abbrev pub IsPastGrace : ℕ → ℕ → Type 0
  IsPastGrace now until = (until < now) × (later until grace < now)

  -- none, or one that is past the grace
  abbrev pub HasNoLease : ℕ → Option Lease → Type 0
  HasNoLease now None = Unit {0}
  HasNoLease now (Some lease) = IsPastGrace now lease.until

  abbrev pub HasNoChannel : ℕ → Option Channel → Type 0
  HasNoChannel now None = Unit {0}
  HasNoChannel now (Some channel) = IsPastGrace now channel.lease.until

  abbrev pub HasNoAllocation : ℕ → Option Allocation → Type 0
  HasNoAllocation now None = Unit {0}
  HasNoAllocation now (Some a) = IsPastGrace now a.until

  abbrev pub AreAlikeLeases : ℕ → Option Lease → Option Lease → Type 0
  AreAlikeLeases now one other = (one ≡ other) ⊎ (HasNoLease now one × HasNoLease now other)

  abbrev pub AreAlikeChannels : ℕ → Option Channel → Option Channel → Type 0
  AreAlikeChannels now one other = (one ≡ other) ⊎ (HasNoChannel now one × HasNoChannel now other)

  -- equal, except for permissions and channels that are past the grace
  pub record AreAlikeAllocations (now : ℕ) (one other : Allocation) : Type 0 where
    pub relayed : one.relayed ≡ other.relayed
    pub user : one.user ≡ other.user
    pub id : one.id ≡ other.id
    pub until : one.until ≡ other.until
    pub permissions : (ip : ℕ) → AreAlikeLeases now (one.permissions ip) (other.permissions ip)
    pub channels : (number : ℕ) → AreAlikeChannels now (one.channels number) (other.channels number)

  abbrev pub AreBoth : (Allocation → Allocation → Type 0) → Option Allocation → Option Allocation → Type 0
  AreBoth P None other = ⊥
  AreBoth P (Some a) None = ⊥
  AreBoth P (Some a) (Some b) = P a b

  -- no client has an allocation, except past the grace, or both have allocations that are alike
  abbrev pub AreAlikeEntries : ℕ → Option Allocation → Option Allocation → Type 0
  AreAlikeEntries now one other = (HasNoAllocation now one × HasNoAllocation now other) ⊎ AreBoth (AreAlikeAllocations now) one other
