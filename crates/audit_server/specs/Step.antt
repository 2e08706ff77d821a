-- The steps of a TURN server.
use Rattle.std.specs.Prelude.{ℕ}
use Rattle.audit_model.specs.declared.pair.Pair.{Pair}
use Rattle.audit_model.specs.declared.sighting.SightId.{SightId}

-- a datagram arrives; the server sends a departure for an arrival, for a client; or a datagram
-- leaves
pub data Move : Type 0 where
  In : SightId → Move
  Act : Pair → SightId → SightId → Move
  Out : SightId → Move

pub record Step : Type 0 where
  pub moment : ℕ
  pub move : Move
