-- The rules of a server, whatever the datagrams are.
use Rattle.std.specs.Prelude.{ℕ, Option}
use Rattle.audit_model.specs.declared.pair.Pair.{Pair}
use Rattle.audit_model.specs.declared.sighting.SightId.{SightId}
use Rattle.audit_rules.specs.Allocation.{Allocation, Change}

-- The two tolerances; the change of an act, by the client, the arrival, the departure, the moment
-- and the client's allocation; and whether the server may act so, by that allocation alone.
pub record Rules : Type 1 where
  pub grace : ℕ
  pub hold : ℕ
  pub change : Pair → SightId → SightId → ℕ → Option Allocation → Change
  pub MayAnswer : Pair → SightId → SightId → ℕ → Option Allocation → Type 0
