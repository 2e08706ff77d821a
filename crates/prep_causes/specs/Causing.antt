-- Which arrival can have caused which departure.
use Rattle.std.specs.Prelude.{◌≡◌, ◌≤◌, ◌+◌, ℕ, true, false, ⊤}
use Rattle.audit_model.specs.declared.sighting.Side.TheVariants.{Arrives, Leaves}
use Rattle.prep_causes.specs.declared.carried.Carried.{Carried}
use Rattle.prep_causes.specs.declared.carried.Carried.TheVariants.{Data, Exchange}
use Rattle.prep_causes.specs.declared.carried.Peer.{Peer}
use Rattle.prep_causes.specs.declared.carried.Peer.TheVariants.{At, OfService, Unsaid}
use Rattle.prep_causes.specs.declared.half.Half.{Half}
use Rattle.prep_causes.specs.declared.half.Reach.{Reach}

-- the two can be the same; a channel's number may be of any peer
abbrev pub Agree : Peer → Peer → Type 0
Agree Unsaid other = ⊤
Agree (At one) Unsaid = ⊤
Agree (At one) OfService = ⊥
Agree (At one) (At another) = one ≡ another
Agree OfService Unsaid = ⊤
Agree OfService OfService = ⊤
Agree OfService (At another) = ⊥

-- The departure has the data of the arrival, or is the response to its request.
abbrev pub Answers : Carried → Carried → Type 0
Answers (Data digest peer) (Data sent from) = (digest ≡ sent) × Agree peer from
Answers (Data digest peer) (Exchange is_request client method tid) = ⊥
Answers (Exchange is_request client method tid) (Data digest peer) = ⊥
Answers (Exchange true client method tid) (Exchange false receiver same_method same_tid) =
    (client ≡ receiver) × (method ≡ same_method) × (tid ≡ same_tid)
Answers (Exchange false client method tid) (Exchange is_request receiver same_method same_tid) = ⊥
Answers (Exchange true client method tid) (Exchange true receiver same_method same_tid) = ⊥

-- It leaves at most the hold after it arrived. Two clocks may differ by as much as the slack, so it
-- may seem to leave earlier.
pub record IsInReach (reach : Reach) (arrival departure : ℕ) : Type 0 where
  pub from : arrival ≤ departure + reach.slack
  pub within : departure ≤ (arrival + reach.hold) + reach.slack

-- an arrival, and a departure that it can have caused
pub record IsCause (reach : Reach) (arrival departure : Half) : Type 0 where
  pub arrives : arrival.side ≡ Arrives
  pub leaves : departure.side ≡ Leaves
  pub in_reach : IsInReach reach arrival.stamp departure.stamp
  pub answered : Answers arrival.carried departure.carried
