-- The bytes that an integrity attribute covers, defined without places (RFC 8489, sections 14.5 and
-- 14.6).
use Rattle.std.specs.Prelude.{◌≡◌, ◌≢◌, ℕ, List, [], ◌∷◌, ◌++◌, length, All}
use Rattle.std.specs.Int.{w16, to_be_bytes}
use Rattle.audit_stun.specs.Attribute.{Attribute}
use Rattle.audit_stun.specs.Message.{IsMessage}
use Rattle.audit_stun.specs.Parts.{parts_of}

abbrev pub integrity : ℕ → List ℕ → Attribute
integrity kind value = record { kind = kind; value = value }

-- The value is that of the first attribute of this type. The text follows the first four bytes of
-- the message. And head, text and that attribute are a message, which has the attributes up to this
-- one and otherwise the same parts.
pub record IsCovered (kind : ℕ) (message head text value : List ℕ) : Type 0 where
  pub before : List Attribute
  pub after : List Attribute
  pub start : List ℕ
  pub rest : List ℕ
  pub padding : List ℕ
  pub attributes : (parts_of message).attributes ≡ before ++ integrity kind value ∷ after
  pub first : All (λ a. a.kind ≢ kind) before
  pub in_place : message ≡ start ++ text ++ rest
  pub four : length start ≡ 4
  pub ended : IsMessage (head ++ text ++ to_be_bytes w16 kind ++ to_be_bytes w16 (length value) ++ value ++ padding) (record (parts_of message) { attributes = before ++ integrity kind value ∷ [] })
