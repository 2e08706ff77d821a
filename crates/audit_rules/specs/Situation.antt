-- One act of the server, and all that it depends on.
use Rattle.std.specs.Prelude.{◌≡◌, ℕ, if◌then◌else◌, IsTrue, List, Option, Some, None}
use Rattle.audit_model.specs.declared.address.Addr.{Addr}
use Rattle.audit_model.specs.declared.policy.Policy.{Policy}
use Rattle.audit_model.specs.declared.sighting.Sighting.{Sighting}
use Rattle.audit_model.specs.Lanes.{same_pair}
use Rattle.audit_model.specs.Policy.{listens, relays}
use Rattle.audit_stun.specs.declared.class.Class.{Class}
use Rattle.audit_stun.specs.Message.{Parts, IsMessage}
use Rattle.audit_stun.specs.Parts.{parts_of}
use Rattle.audit_keys.specs.Keys.{KeyFor}
use Rattle.audit_rules.specs.declared.path.Path.{Path}
use Rattle.audit_rules.specs.declared.path.Path.TheVariants.{Client, Relay}
use Rattle.audit_rules.specs.Allocation.{Allocation}

-- the client and the listen address, the policy, the keys of the users by user and realm, the
-- server's state for the client, the arrival, the departure, and the moment
pub record Situation : Type 0 where
  pub client : Addr
  pub listen : Addr
  pub policy : Policy
  pub key_for : KeyFor
  pub allocation : Option Allocation
  pub arrives : Sighting
  pub leaves : Sighting
  pub moment : ℕ

-- the lane's listen address is one of the policy's
abbrev pub IsServed : Situation → Type 0
IsServed x = IsTrue (listens x.policy x.listen)

-- the contents of the arrival and the departure, if they are STUN messages
abbrev pub arrival_parts : Situation → Parts
arrival_parts x = parts_of x.arrives.payload

abbrev pub answered : Situation → Parts
answered x = parts_of x.leaves.payload

-- a STUN message of this class and method
abbrev pub IsOf : List ℕ → Class → ℕ → Type 0
IsOf payload class method = IsMessage payload (parts_of payload) × ((parts_of payload).class ≡ class) × ((parts_of payload).method ≡ method)

-- between the client and its listen address, or at an address of a relay range
abbrev pub arrival_path : Situation → Option Path
arrival_path x =
    if same_pair x.arrives.from x.arrives.to x.client x.listen then Some Client
    else (if relays x.policy x.arrives.to then Some Relay else None)

abbrev pub departure_path : Situation → Option Path
departure_path x =
    if same_pair x.leaves.from x.leaves.to x.listen x.client then Some Client
    else (if relays x.policy x.leaves.from then Some Relay else None)
