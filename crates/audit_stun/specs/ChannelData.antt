-- ChannelData over UDP (RFC 8656, sections 12 and 12.4).
use Rattle.std.specs.Prelude.{◌≡◌, ℕ, ◌^◌, ◌-◌, ◌<◌, ◌≤◌, ◌&&◌, nat_le, nat_lt, if◌then◌else◌, List, [], ◌∷◌, ◌++◌, length, take, Option, Some, None}
use Rattle.std.specs.Int.{w16, to_be_bytes, from_be_bytes}

-- A channel number, whose two highest bits are 01, the length of the data, the data, and what may
-- come after it.
pub record IsChannelData (payload : List ℕ) (number : ℕ) (bytes after : List ℕ) : Type 0 where
  pub spelled : payload ≡ to_be_bytes w16 number ++ to_be_bytes w16 (length bytes) ++ bytes ++ after
  pub from : 0x4000 ≤ number
  pub below : number < 0x8000
  pub length_fits : length bytes < 2 ^ 16

-- the number, the data and the number of bytes after it, or none
unfoldable pub channel_data_of : List ℕ → Option (ℕ × List ℕ × ℕ)
channel_data_of (a ∷ b ∷ c ∷ d ∷ rest) =
    let number = from_be_bytes w16 (a ∷ b ∷ []) in
    let size = from_be_bytes w16 (c ∷ d ∷ []) in
    if nat_le 0x4000 number && nat_lt number 0x8000 && nat_le size (length rest) then Some (number, take size rest, length rest - size) else None
channel_data_of _ = None
