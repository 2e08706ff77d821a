-- The parts of a message, read from its bytes. For bytes that are no message they mean nothing.
use Rattle.std.specs.Prelude.{ℕ, zero, suc, List, [], ◌∷◌, length, take, drop, nat_le, if◌then◌else◌, slice_range}
use Rattle.std.specs.Int.{w16, from_be_bytes}
use Rattle.audit_stun.specs.Attribute.{Attribute, padded}
use Rattle.audit_stun.specs.Message.{Parts}
use Rattle.audit_stun.specs.MessageType.{class_of, method_of}

-- the attributes in the bytes, after the first `n` bytes, which are of an earlier one
unfoldable pub attributes_after : ℕ → List ℕ → List Attribute
attributes_after (suc n) (_ ∷ bytes) = attributes_after n bytes
attributes_after zero (a ∷ b ∷ c ∷ d ∷ bytes) =
    let n = from_be_bytes w16 (c ∷ d ∷ []) in
    if nat_le (padded n) (length bytes) then record { kind = from_be_bytes w16 (a ∷ b ∷ []); value = take n bytes } ∷ attributes_after (padded n) bytes else []
attributes_after _ _ = []

abbrev pub attributes_in : List ℕ → List Attribute
attributes_in bytes = attributes_after 0 bytes

unfoldable pub parts_of : List ℕ → Parts
parts_of bytes =
    let number = from_be_bytes w16 (take 2 bytes) in
    record { class = class_of number; method = method_of number; tid = slice_range bytes 8 20; attributes = attributes_in (drop 20 bytes) }
