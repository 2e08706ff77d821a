-- The rules of a server with a policy and its users' keys, over the datagrams that were captured
-- (RFC 8656).
use Rattle.std.specs.Prelude.{ℕ, Option, Some, None}
use Rattle.audit_model.specs.declared.pair.Pair.{Pair}
use Rattle.audit_model.specs.declared.policy.Policy.{Policy}
use Rattle.audit_model.specs.declared.sighting.SightId.{SightId}
use Rattle.audit_model.specs.declared.sighting.Sighting.{Sighting}
use Rattle.audit_rules.specs.Allocation.{Allocation, Change, Same}
use Rattle.audit_rules.specs.Answer.{MayAnswer}
use Rattle.audit_rules.specs.Keys.{KeyFor}
use Rattle.audit_rules.specs.Said.{change_in}
use Rattle.audit_rules.specs.Situation.{Situation}
use Rattle.audit_server.specs.Rules.{Rules}

module _ (policy : Policy) (key_for : KeyFor) where
  -- the server sends a departure for an arrival, for a client with this allocation
  abbrev pub situation_at : Pair → ℕ → Option Allocation → Sighting → Sighting → Situation
  situation_at c moment x arrives leaves = record {
    client = c.client;
    listen = c.listen;
    policy = policy;
    key_for = key_for;
    allocation = x;
    arrives = arrives;
    leaves = leaves;
    moment = moment;
  }

  -- the change that the departure says; none if one of the two wasn't captured
  abbrev pub change_between : Pair → ℕ → Option Allocation → Option Sighting → Option Sighting → Change
  change_between c moment x None leaves = Same
  change_between c moment x (Some arrives) None = Same
  change_between c moment x (Some arrives) (Some leaves) = change_in (situation_at c moment x arrives leaves)

  -- the server may act so, apart from the uniqueness of relayed addresses, which needs the whole
  -- table
  abbrev pub MayBetween : Pair → ℕ → Option Allocation → Option Sighting → Option Sighting → Type 0
  MayBetween c moment x None leaves = ⊥
  MayBetween c moment x (Some arrives) None = ⊥
  MayBetween c moment x (Some arrives) (Some leaves) = MayAnswer (situation_at c moment x arrives leaves) (change_in (situation_at c moment x arrives leaves))

  -- the rules, from a look-up of the sightings
  abbrev pub rules_of : (SightId → Option Sighting) → Rules
  rules_of sighting = record {
    grace = policy.grace;
    hold = policy.hold;
    change = λ c s t moment x. change_between c moment x (sighting s) (sighting t);
    MayAnswer = λ c s t moment x. MayBetween c moment x (sighting s) (sighting t);
  }
