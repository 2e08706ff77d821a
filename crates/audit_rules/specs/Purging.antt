-- What a purge leaves of an allocation: all but its permissions and channel bindings that are past
-- the grace (RFC 8656, sections 9 and 12).
use Rattle.std.specs.Prelude.{ℕ, ◌≡◌, if◌then◌else◌, Option, Some, None}
use Rattle.std.specs.Option.{option_and_then}
use Rattle.audit_expiry.specs.declared.lease.Lease.{Lease}
use Rattle.audit_expiry.specs.Lease.{lasts}
use Rattle.audit_rules.specs.declared.table.Channel.{Channel}
use Rattle.audit_rules.specs.Allocation.{Allocation}
use Rattle.audit_rules.specs.Effect.{Standing}

module _ (moment grace : ℕ) where
  abbrev pub lease_left : Option Lease → Option Lease
  lease_left found = option_and_then (λ lease. if lasts lease.until moment grace then Some lease else None) found

  abbrev pub channel_left : Option Channel → Option Channel
  channel_left found = option_and_then (λ channel. if lasts channel.lease.until moment grace then Some channel else None) found

  -- the new allocation has of the old one what isn't past the grace
  pub record IsPurged (old new : Allocation) : Type 0 where
    pub relayed : new.relayed ≡ old.relayed
    pub user : new.user ≡ old.user
    pub id : new.id ≡ old.id
    pub until : new.until ≡ old.until
    pub permissions : (ip : ℕ) → new.permissions ip ≡ lease_left (old.permissions ip)
    pub channels : (number : ℕ) → new.channels number ≡ channel_left (old.channels number)

  -- neither has an allocation, or the new one is the old one's, purged
  abbrev pub IsPurgedEntry : Option Allocation → Option Allocation → Type 0
  IsPurgedEntry None new = new ≡ None
  IsPurgedEntry (Some old) None = ⊥
  IsPurgedEntry (Some old) (Some new) = IsPurged old new

  -- the table has the same client, listen address, number and tenancy, and its allocation is purged
  pub record IsPurgedTable (old new : Standing) : Type 0 where
    pub client : new.client ≡ old.client
    pub listen : new.listen ≡ old.listen
    pub lane : new.lane ≡ old.lane
    pub tenancy : new.tenancy ≡ old.tenancy
    pub allocation : IsPurgedEntry old.allocation new.allocation
