-- The keys on which an act depends.
use Rattle.std.specs.Prelude.{◌≡◌, ℕ, List}
use Rattle.audit_stun.specs.declared.class.Class.TheVariants.{Request}
use Rattle.audit_stun.specs.Message.{IsMessage}
use Rattle.audit_stun.specs.Parts.{parts_of}
use Rattle.audit_rules.specs.Keys.{KeyFor, AgreeOn}

-- if the payload is a request, both have the same key for the user and the realm that it names
abbrev pub AgreeInRequest : KeyFor → KeyFor → List ℕ → Type 0
AgreeInRequest one other payload = IsMessage payload (parts_of payload) → (parts_of payload).class ≡ Request → AgreeOn one other payload
