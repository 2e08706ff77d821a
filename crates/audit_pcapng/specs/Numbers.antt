-- Numbers in a section's byte order (section 3.6 of draft-ietf-opsawg-pcapng).
use Rattle.std.specs.Prelude.{ℕ, ◌+◌, ◌*◌, ◌/◌, List, take, drop}
use Rattle.std.specs.Int.{Width, byte_len, from_be_bytes, from_le_bytes}
use Rattle.audit_pcapng.specs.declared.byte_order.ByteOrder.{ByteOrder}
use Rattle.audit_pcapng.specs.declared.byte_order.ByteOrder.TheVariants.{Little, Big}

-- the number that these bytes spell
abbrev pub number : ByteOrder → Width → List ℕ → ℕ
number Little w bytes = from_le_bytes w bytes
number Big w bytes = from_be_bytes w bytes

-- the number of this width that begins at an offset
unfoldable pub number_at : ByteOrder → Width → ℕ → List ℕ → ℕ
number_at order w offset bytes = number order w (take (byte_len w) (drop offset bytes))

-- a length with its padding to a multiple of 4
abbrev pub padded : ℕ → ℕ
padded n = (n + 3) / 4 * 4
