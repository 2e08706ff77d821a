-- The message that a builder has.
use Rattle.std.specs.Prelude.{◌≡◌, ℕ, ◌+◌, List, ◌++◌, length}
use Rattle.audit_samples.specs.declared.messages.MessageBuilder.{MessageBuilder}
use Rattle.audit_samples.specs.Layout.{header_bytes, attribute_bytes}
use Rattle.audit_keys.specs.Hmac.{hmac_of}
use Rattle.audit_stun.specs.declared.numbers.attribute.TheConstants.{MESSAGE_INTEGRITY}

-- the message so far
abbrev pub message_bytes : MessageBuilder → List ℕ
message_bytes builder = header_bytes builder.message_type (length builder.attributes.items) builder.transaction ++ builder.attributes.items

-- the bytes that MESSAGE-INTEGRITY covers: the message so far, with its length including that
-- attribute
abbrev pub covered_bytes : MessageBuilder → List ℕ
covered_bytes builder = header_bytes builder.message_type (length builder.attributes.items + 24) builder.transaction ++ builder.attributes.items

-- the number of bytes of its attributes
abbrev pub size : MessageBuilder → ℕ
size builder = length builder.attributes.items

-- a message of this type and transaction with these attributes
abbrev pub IsMessage : MessageBuilder → ℕ → List ℕ → List ℕ → Type 0
IsMessage builder number transaction attributes = (builder.message_type ≡ number) × (builder.transaction ≡ transaction) × (builder.attributes.items ≡ attributes)

-- the same message with these bytes after its attributes
abbrev pub IsExtended : MessageBuilder → List ℕ → MessageBuilder → Type 0
IsExtended old more new = IsMessage new old.message_type old.transaction (old.attributes.items ++ more)

abbrev pub integrity_bytes : List ℕ → MessageBuilder → List ℕ
integrity_bytes key builder = attribute_bytes MESSAGE_INTEGRITY (hmac_of key (covered_bytes builder))
