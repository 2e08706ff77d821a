-- The terms by which a lane is judged in addition to its events, and the state after the events so
-- far.
use Rattle.std.specs.Prelude.{ℕ, Option, None, List, [], option_and_then}
use Rattle.audit_model.specs.declared.event.At.{At}
use Rattle.audit_model.specs.declared.event.Key.{Key}
use Rattle.audit_model.specs.declared.policy.Policy.{Policy}
use Rattle.audit_model.specs.declared.sighting.SightId.{SightId}
use Rattle.audit_model.specs.declared.sighting.Sighting.{Sighting}
use Rattle.audit_model.specs.declared.verdict.Tenancy.{Tenancy}
use Rattle.audit_rules.specs.Effect.{Standing}
use Rattle.audit_rules.specs.Keys.{KeyFor}
use Rattle.audit_rules.specs.Situation.{Situation}
use Rattle.audit_lane.specs.declared.noted.Arrival.{Arrival}
use Rattle.audit_lane.specs.declared.noted.Departure.{Departure}
use Rattle.audit_lane.specs.declared.noted.Owed.{Owed}

-- Its number, the policy, and the keys for an act whose arrival names the user of a number.
pub record Terms : Type 0 where
  pub number : ℕ
  pub policy : Policy
  pub keys : Option ℕ → KeyFor

-- The client's leases; each arrival, by the first time that it came; each departure that an act
-- sent; by the places of the acts, those whose departure has not left; and the tenancies that acts
-- ended.
pub record Kept : Type 0 where
  pub standing : Standing
  pub came : SightId → Option Arrival
  pub gave : SightId → Option Departure
  pub owed : ℕ → Option Owed
  pub ended : List Tenancy

-- nothing came, and nothing was sent
abbrev pub at_first : Standing → Kept
at_first standing = record { standing = standing; came = λ _. None; gave = λ _. None; owed = λ _. None; ended = [] }

-- the place of an event of the lane
abbrev pub place_at : Terms → Key → ℕ → At
place_at terms key place = record { key = key; lane = terms.number; place = place }

-- the number of the user that an arrival names, if it came
abbrev pub user_by : Option Arrival → Option ℕ
user_by arrival = option_and_then (λ a. a.user) arrival

-- the server sends a departure for an arrival at a moment
abbrev pub situation_in : Terms → Kept → Sighting → Sighting → ℕ → Situation
situation_in terms kept arrives leaves moment = record {
  client = kept.standing.client;
  listen = kept.standing.listen;
  policy = terms.policy;
  key_for = terms.keys (user_by (kept.came arrives.id));
  allocation = kept.standing.allocation;
  arrives = arrives;
  leaves = leaves;
  moment = moment;
}
