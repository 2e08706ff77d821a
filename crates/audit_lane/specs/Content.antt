-- The content by which a lane is judged, and the result of a lane.
use Rattle.std.specs.Prelude.{ℕ, List, Option, slice_get, option_and_then, option_to_list}
use Rattle.audit_model.specs.declared.address.Addr.{Addr}
use Rattle.audit_model.specs.declared.event.Key.{Key}
use Rattle.audit_model.specs.declared.policy.Policy.{Policy}
use Rattle.audit_model.specs.declared.sighting.Sighting.{Sighting}
use Rattle.audit_model.specs.declared.verdict.Breach.{Breach}
use Rattle.audit_model.specs.declared.verdict.Tenancy.{Tenancy}
use Rattle.audit_keys.specs.declared.keys.Keys.{Keys}
use Rattle.audit_rules.specs.declared.credentials.CredRow.{CredRow}
use Rattle.audit_lane.specs.declared.input.LaneEvent.{LaneEvent}
use Rattle.audit_lane.specs.declared.input.LaneEvent.TheVariants.{In, Act, Out}

-- an event with the sightings that it names; for a request that arrives, also the number of the
-- user that it names
pub data Happening : Type 0 where
  Came : Sighting → Option ℕ → Key → Happening
  Acted : Sighting → Sighting → Key → Happening
  Went : Sighting → Key → Happening

abbrev pub happening : LaneEvent → Happening
happening (In sighting user key) = Came sighting.now user key
happening (Act arrives leaves key) = Acted arrives.now leaves.now key
happening (Out sighting key) = Went sighting.now key

-- a user of a realm, and their long-term keys
pub record User : Type 0 where
  pub user : List ℕ
  pub realm : List ℕ
  pub key : Keys

abbrev pub user_of : CredRow → User
user_of row = record { user = row.user.now; realm = row.realm.now; key = row.key }

-- the one of that number, if there is a number and one of it
abbrev pub numbered : {A : Type 0} → List A → Option ℕ → List A
numbered all number = option_to_list (option_and_then (slice_get all) number)

pub record Content : Type 0 where
  pub number : ℕ
  pub client : Addr
  pub listen : Addr
  pub policy : Policy
  pub users : List User
  pub events : List Happening

-- a lane passes with its tenancies, or breaks a rule
pub data Judgement : Type 0 where
  Passes : List Tenancy → Judgement
  Breaks : Breach → Judgement

-- a judged lane
pub record Found : Type 0 where
  pub input : Content
  pub outcome : Judgement
