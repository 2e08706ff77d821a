-- The code's effect on a table, as the definitions see it.
use Rattle.std.specs.Prelude.{ℕ, ◌==◌, if◌then◌else◌, Option, None, option_map}
use Rattle.audit_model.specs.declared.address.Addr.{Addr}
use Rattle.audit_model.specs.declared.event.Key.{Key}
use Rattle.audit_model.specs.declared.verdict.Tenancy.{Tenancy}
use Rattle.audit_rules.specs.declared.effect.Effect.{Effect}
use Rattle.audit_rules.specs.declared.effect.Effect.TheVariants as effects
use Rattle.audit_rules.specs.declared.table.LaneTable.{LaneTable}
use Rattle.audit_rules.specs.declared.table.Allocation as declared
use Rattle.audit_rules.specs.Allocation.{Allocation, Change, Same, Makes, Renews, Grants, Binds, Removes}
use Rattle.audit_rules.specs.Allocating.{seconds_after}
use Rattle.audit_rules.specs.Seen.{seen}

-- a Refresh with LIFETIME 0 removes the allocation
abbrev pub refreshed : ℕ → ℕ → Change
refreshed moment seconds = if seconds == 0 then Removes else Renews (seconds_after moment seconds)

abbrev pub change_of : ℕ → Effect → Change
change_of moment effects.Same = Same
change_of moment (effects.Makes made id) =
    Makes (record { relayed = made.relayed; user = made.user.now; id = id; until = seconds_after moment made.seconds; permissions = λ _. None; channels = λ _. None })
change_of moment (effects.Refreshes seconds) = refreshed moment seconds
change_of moment (effects.Grants ips) = Grants ips.items (seconds_after moment 300)
change_of moment (effects.Binds bound) = Binds bound.number bound.peer (seconds_after moment 600) (seconds_after moment 300)

-- the tenancy of an allocation, ended or current
abbrev pub tenancy_of : Option Key → declared.Allocation → Tenancy
tenancy_of stopped a = record { born = a.born; stopped = stopped; last = a.last; relayed = a.relayed; sight = a.sight }

-- The state of a table: the allocation, and its tenancy so far.
pub record Standing : Type 0 where
  pub client : Addr
  pub listen : Addr
  pub lane : ℕ
  pub allocation : Option Allocation
  pub tenancy : Option Tenancy

abbrev pub standing : LaneTable → Standing
standing table = record {
  client = table.client;
  listen = table.listen;
  lane = table.lane;
  allocation = option_map seen table.allocation;
  tenancy = option_map (tenancy_of None) table.allocation;
}
