-- The lane that holds each relayed address.
use Rattle.std.specs.Prelude.{◌≡◌, ℕ, Bool, true, false, ◌&&◌, ◌==◌, List, Option, Some, None, option_and_then, slice_get}
use Rattle.std.specs.BTreeMap.{get}
use Rattle.std.specs.declared.cmp.Ordering.{Ordering}
use Rattle.std.specs.declared.cmp.Ordering.TheVariants.{Less, Equal, Greater}
use Rattle.audit_model.specs.declared.address.Addr.{Addr}
use Rattle.audit_model.specs.declared.verdict.Tenancy.{Tenancy}
use Rattle.audit_model.specs.Clash.{act_cmp}
use Rattle.audit_model.specs.LanePairs.{addr_cmp}
use Rattle.audit_lane.specs.Seen.{kept_of}
use Rattle.audit_server.specs.State.{put}
use Rattle.audit_live.specs.declared.holders.Holders.{Holders}
use Rattle.audit_live.specs.declared.lane.LiveLane.{LiveLane}

-- the lane that is noted for the address
abbrev pub holder_of : Holders → Addr → Option ℕ
holder_of holders relayed = get addr_cmp holders.lanes relayed

abbrev pub runs_in : LiveLane → Option Tenancy
runs_in lane = (kept_of lane.state).standing.tenancy

-- the current tenancy of the lane of that number, if there is one
abbrev pub running_at : List LiveLane → ℕ → Option Tenancy
running_at lanes number = option_and_then runs_in (slice_get lanes number)

-- the current tenancy of the lane that is noted for the address
abbrev pub held_in : List LiveLane → Holders → Addr → Option Tenancy
held_in lanes holders relayed = option_and_then (running_at lanes) (holder_of holders relayed)

abbrev pub is_less : Ordering → Bool
is_less Less = true
is_less Equal = false
is_less Greater = false

-- the act that made the first came before that of the second
abbrev pub is_before : Tenancy → Tenancy → Bool
is_before one other = is_less (act_cmp one.born.key one.born.lane other.born.key other.born.lane)

abbrev pub same_addr : Addr → Addr → Bool
same_addr one other = (one.ip == other.ip) && (one.port == other.port)

-- the address was granted to the current tenancy later
abbrev pub is_held_later : Option Tenancy → Tenancy → Bool
is_held_later None tenancy = false
is_held_later (Some holder) tenancy = same_addr holder.relayed tenancy.relayed && is_before tenancy holder

-- the lane of a current tenancy is noted for its address, unless the address was granted to another
-- lane later
pub record Notes (lanes : List LiveLane) (old : Holders) (tenancy : Tenancy) (new : Holders) : Type 0 where
  pub kept : is_held_later (held_in lanes old tenancy.relayed) tenancy ≡ true → new ≡ old
  pub noted : is_held_later (held_in lanes old tenancy.relayed) tenancy ≡ false
      → (relayed : Addr) → holder_of new relayed ≡ put same_addr (holder_of old) tenancy.relayed (Some tenancy.born.lane) relayed
