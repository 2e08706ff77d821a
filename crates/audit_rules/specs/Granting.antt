-- docs/RULES.md, CreatePermission and ChannelBind.
-- When permissions may be granted and channels bound (RFC 8656, sections 9 to 12).
use Rattle.std.specs.Prelude.{◌≡◌, ◌↔◌, ℕ, ◌<◌, ◌≤◌, List, Some, length}
use Rattle.audit_model.specs.declared.address.Addr.{Addr}
use Rattle.audit_stun.specs.declared.class.Class.TheVariants.{Success}
use Rattle.audit_stun.specs.declared.numbers.method.TheConstants.{CREATE_PERMISSION, CHANNEL_BIND}
use Rattle.audit_stun.specs.declared.numbers.attribute.TheConstants.{XOR_PEER_ADDRESS}
use Rattle.audit_keys.specs.Authentic.{IsAuthentic}
use Rattle.audit_expiry.specs.Lease.{IsGone}
use Rattle.audit_rules.specs.declared.table.Channel.{Channel}
use Rattle.audit_rules.specs.Allocation.{Allocation, Change, Grants, Binds}
use Rattle.audit_rules.specs.Allocating.{seconds_after}
use Rattle.audit_rules.specs.Situation.{Situation, arrival_parts}
use Rattle.audit_rules.specs.Values.{Names, peer_ips_of, channel_number_of}
use Rattle.audit_rules.specs.Standing.{IsResponse, IsSignedBack, WithUsable, IsOwn}

-- CreatePermission (RFC 8656, section 10.2): the IP of each peer has a permission for 300 seconds.
pub record AnswersPermission (x : Situation) (change : Change) : Type 0 where
  pub response : IsResponse x Success CREATE_PERMISSION
  pub user : List ℕ
  pub authentic : IsAuthentic x.key_for x.arrives.payload user
  pub own : WithUsable x (IsOwn x)
  pub ips : List ℕ
  pub names : peer_ips_of (arrival_parts x) ≡ Some ips
  pub some : 0 < length ips
  pub signed : IsSignedBack x
  pub changes : change ≡ Grants ips (seconds_after x.moment 300)

-- a channel number (section 12)
abbrev pub IsChannelNumber : ℕ → Type 0
IsChannelNumber number = (0x4000 ≤ number) × (number ≤ 0x4FFF)

-- each binding that isn't gone has both the number and the peer, or neither
abbrev pub NoConflict : Situation → ℕ → Addr → Allocation → Type 0
NoConflict x number peer a = (n : ℕ) (channel : Channel) → a.channels n ≡ Some channel → (IsGone channel.lease.until x.moment → ⊥) → (n ≡ number) ↔ (channel.peer ≡ peer)

-- ChannelBind (RFC 8656, section 12.2): the number is bound to the peer for 600 seconds, and the
-- peer's IP has a permission for 300. Of several peers the first counts.
pub record AnswersChannelBind (x : Situation) (change : Change) : Type 0 where
  pub response : IsResponse x Success CHANNEL_BIND
  pub user : List ℕ
  pub authentic : IsAuthentic x.key_for x.arrives.payload user
  pub number : ℕ
  pub has_number : channel_number_of (arrival_parts x) ≡ Some number
  pub in_range : IsChannelNumber number
  pub peer : Addr
  pub names : Names XOR_PEER_ADDRESS (arrival_parts x) peer
  pub own : WithUsable x (λ a. IsOwn x a × NoConflict x number peer a)
  pub signed : IsSignedBack x
  pub changes : change ≡ Binds number peer (seconds_after x.moment 600) (seconds_after x.moment 300)
