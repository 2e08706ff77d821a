-- The server's state for one client at one listen address, and how an act changes it (RFC 8656,
-- section 6).
use Rattle.std.specs.Prelude.{ℕ, ◌==◌, if◌then◌else◌, List, [], ◌∷◌, Option, Some, None, option_map}
use Rattle.std.specs.List.{list_any}
use Rattle.audit_model.specs.declared.address.Addr.{Addr}
use Rattle.audit_expiry.specs.declared.lease.Lease.{Lease}
use Rattle.audit_rules.specs.declared.table.Channel.{Channel}

-- the relayed address, the user, the transaction id of the request that made it, and its end; the
-- end of the permission of each peer's IP (section 9), and the peer that each channel number is
-- bound to (section 12)
pub record Allocation : Type 0 where
  pub relayed : Addr
  pub user : List ℕ
  pub id : List ℕ
  pub until : ℕ
  pub permissions : ℕ → Option Lease
  pub channels : ℕ → Option Channel

-- the effect of an act on the client's allocation
pub data Change : Type 0 where
  Same : Change
  Makes : Allocation → Change
  Renews : ℕ → Change
  Grants : List ℕ → ℕ → Change
  Binds : ℕ → Addr → ℕ → ℕ → Change
  Removes : Change

-- the permissions with one until this moment for each of the IPs
abbrev pub granted : (ℕ → Option Lease) → List ℕ → ℕ → ℕ → Option Lease
granted permissions ips until ip = if list_any (λ one. one == ip) ips then Some (record { until = until }) else permissions ip

-- the channels with this number bound to the peer until this moment
abbrev pub bound : (ℕ → Option Channel) → ℕ → Addr → ℕ → ℕ → Option Channel
bound channels number peer until n = if number == n then Some (record { peer = peer; lease = record { until = until } }) else channels n

abbrev pub renewed : ℕ → Allocation → Allocation
renewed until a = record a { until = until }

abbrev pub with_granted : List ℕ → ℕ → Allocation → Allocation
with_granted ips until a = record a { permissions = granted a.permissions ips until }

-- a channel comes with a permission, each until its own moment
abbrev pub with_bound : ℕ → Addr → ℕ → ℕ → Allocation → Allocation
with_bound number peer until permitted a =
    record a { permissions = granted a.permissions (peer.ip ∷ []) permitted; channels = bound a.channels number peer until }

-- the allocation after the act
abbrev pub applied : Change → Option Allocation → Option Allocation
applied Same found = found
applied (Makes made) found = Some made
applied (Renews until) found = option_map (renewed until) found
applied (Grants ips until) found = option_map (with_granted ips until) found
applied (Binds number peer until permitted) found = option_map (with_bound number peer until permitted) found
applied Removes found = None
