-- Which datagrams a line of released datagrams may exclude.
use Rattle.std.specs.Prelude.{◌≡◌, ◌<◌, ◌≤◌, ◌+◌, ◌*◌, ℕ, true, List, Option, Some, None}
use Rattle.audit_model.specs.declared.address.Addr.{Addr}
use Rattle.audit_model.specs.declared.pair.Pair.{Pair}
use Rattle.audit_model.specs.declared.sighting.Side.TheVariants.{Leaves}
use Rattle.prep_blocks.specs.declared.block.Block.{Block}
use Rattle.prep_cut.specs.declared.datagram.Datagram.{Datagram}
use Rattle.prep_cut.specs.declared.plan.Plan.{Plan}
use Rattle.prep_cut.specs.declared.reason.Reason.TheVariants.{Released}
use Rattle.prep_cut.specs.Guard.{is_named}
use Rattle.prep_cut.specs.Releasing.{IsShownBy}

-- it is of the client or the address, after a deletion that the captures show, and a departure is
-- within the stated time
pub record IsBehind (plan : Plan) (captured : List Block) (pair : Pair) (relayed : Addr) (moment : ℕ) (datagram : Datagram) : Type 0 where
  pub stated : 0 < plan.stated.released_ms
  pub shown : IsShownBy plan.policy (record { client = pair.client; listen = pair.listen; moment = moment }) captured
  pub named : is_named (Released pair relayed moment) datagram ≡ true
  pub behind : datagram.side ≡ Leaves → moment < datagram.stamp
  pub within : datagram.side ≡ Leaves → datagram.stamp ≤ moment + plan.stated.released_ms * 1000000

abbrev pub IsBehindRelease : Plan → List Block → Pair → Addr → ℕ → Option Datagram → Type 0
IsBehindRelease plan captured pair relayed moment None = ⊥
IsBehindRelease plan captured pair relayed moment (Some datagram) = IsBehind plan captured pair relayed moment datagram
