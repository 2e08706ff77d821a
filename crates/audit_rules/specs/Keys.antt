-- The keys that an act depends on: those of the user and the realm that its request names, and no
-- others.
use Rattle.std.specs.Prelude.{◌≡◌, ℕ, List, Some}
use Rattle.audit_stun.specs.declared.numbers.attribute.TheConstants.{USERNAME, REALM}
use Rattle.audit_stun.specs.Counted.{first_of}
use Rattle.audit_stun.specs.Parts.{parts_of}
pub use Rattle.audit_keys.specs.Keys.{KeyFor}
use Rattle.audit_rules.specs.Situation.{Situation}

-- both have the same keys for the user and the realm that a payload names
abbrev pub AgreeOn : KeyFor → KeyFor → List ℕ → Type 0
AgreeOn one other payload = (user realm : List ℕ) → first_of USERNAME (parts_of payload).attributes ≡ Some user → first_of REALM (parts_of payload).attributes ≡ Some realm
    → one user realm ≡ other user realm

-- the same act by other keys
abbrev pub with_keys : KeyFor → Situation → Situation
with_keys key_for x = record x { key_for = key_for }
