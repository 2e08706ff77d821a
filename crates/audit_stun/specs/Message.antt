-- A message, by RFC 8489, section 5: a header of twenty bytes and the attributes.
use Rattle.std.specs.Prelude.{◌≡◌, ℕ, ◌^◌, ◌<◌, List, ◌++◌, length}
use Rattle.std.specs.Int.{w16, w32, to_be_bytes}
use Rattle.audit_stun.specs.declared.class.Class.{Class}
use Rattle.audit_stun.specs.declared.numbers.TheConstants.{MAGIC_COOKIE}
use Rattle.audit_stun.specs.Attribute.{Attribute, AreAttributes}
use Rattle.audit_stun.specs.MessageType.{IsType}

-- the fields of a message
pub record Parts : Type 0 where
  pub class : Class
  pub method : ℕ
  pub tid : List ℕ
  pub attributes : List Attribute

-- The whole payload is the message with these parts. Its type has two zero bits above it, since
-- `IsType` has fourteen, and its length is a multiple of four, since each attribute's is.
pub record IsMessage (payload : List ℕ) (parts : Parts) : Type 0 where
  pub number : ℕ
  pub body : List ℕ
  pub spelled : payload ≡ to_be_bytes w16 number ++ to_be_bytes w16 (length body) ++ to_be_bytes w32 MAGIC_COOKIE ++ parts.tid ++ body
  pub typed : IsType number parts.class parts.method
  pub twelve : length parts.tid ≡ 12
  pub length_fits : length body < 2 ^ 16
  pub attributes : AreAttributes body parts.attributes
