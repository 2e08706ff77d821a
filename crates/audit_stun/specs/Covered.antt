-- The bytes that an integrity attribute covers (RFC 8489, sections 14.5 and 14.6): the message
-- before it, with the length that the message would have if it ended with this attribute.
use Rattle.std.specs.Prelude.{ℕ, ◌+◌, ◌==◌, if◌then◌else◌, List, [], ◌∷◌, ◌++◌, length, take, slice_range, Option, option_map}
use Rattle.std.specs.Int.{w16, to_be_bytes}
use Rattle.audit_stun.specs.Attribute.{Attribute, padded, size}
use Rattle.audit_stun.specs.Counted.{first_of}
use Rattle.audit_stun.specs.Parts.{parts_of}

-- the number of bytes of the attributes before the first one of a type
unfoldable pub size_before : ℕ → List Attribute → ℕ
size_before kind [] = 0
size_before kind (a ∷ others) = if a.kind == kind then 0 else size a + size_before kind others

-- For the integrity attribute of this type, if it counts: the first four bytes with that length,
-- the bytes from there to the attribute, and its value
unfoldable pub covered_of : ℕ → List ℕ → Option (List ℕ × List ℕ × List ℕ)
covered_of kind bytes =
    let attributes = (parts_of bytes).attributes in
    let before = size_before kind attributes in
    option_map (λ value. (take 2 bytes ++ to_be_bytes w16 (before + 4 + padded (length value)), slice_range bytes 4 (20 + before), value)) (first_of kind attributes)
