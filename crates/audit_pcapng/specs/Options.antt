-- The options at the end of a block (section 3.5).
use Rattle.std.specs.Prelude.{Bool, ℕ, zero, suc, List, [], ◌∷◌, length, take, drop, Option, Some, None, Result, Ok, Err, nat_lt, ◌==◌, unwrap_or, if◌then◌else◌}
use Rattle.std.specs.Int.{w16, w64}
use Rattle.audit_pcapng.specs.declared.byte_order.ByteOrder.{ByteOrder}
use Rattle.audit_pcapng.specs.declared.fault.CaptureFault.{CaptureFault}
use Rattle.audit_pcapng.specs.declared.fault.CaptureFault.TheVariants.{Length}
use Rattle.audit_pcapng.specs.Numbers.{number_at, padded}
use Rattle.audit_pcapng.specs.Reading.{◌>>=◌}

-- the codes and values of a list of at most n options: each is a code, the length of its value, and
-- the value padded to a multiple of 4. Code 0 ends the list, and so does the block's end
unfoldable pub options : ℕ → ByteOrder → List ℕ → Result (List (ℕ × List ℕ)) CaptureFault
options zero order list = Ok []
options (suc n) order list =
    if length list == 0 then Ok []
    else if nat_lt (length list) 4 then Err Length
    else if number_at order w16 0 list == 0 then Ok []
    else if nat_lt (length (drop 4 list)) (padded (number_at order w16 2 list)) then Err Length
    else (options n order (drop (padded (number_at order w16 2 list)) (drop 4 list)) >>= λ others.
    Ok ((number_at order w16 0 list, take (number_at order w16 2 list) (drop 4 list)) ∷ others))

-- the value of the first option with this code
abbrev pub value_of : ℕ → List (ℕ × List ℕ) → Option (List ℕ)
value_of code [] = None
value_of code (option ∷ options) = if option.0 == code then Some option.1 else value_of code options

-- the value that was found before, or else a value that is sought
abbrev pub first_of : Option (List ℕ) → Bool → List ℕ → Option (List ℕ)
first_of (Some earlier) is_sought value = Some earlier
first_of None is_sought value = if is_sought then Some value else None

unfoldable pub first_option : ByteOrder → List ℕ → ℕ → Result (Option (List ℕ)) CaptureFault
first_option order list code = options (length list) order list >>= λ found. Ok (value_of code found)

-- a value of 8 bytes is a number
abbrev pub number_of : ByteOrder → Option (List ℕ) → Result (Option ℕ) CaptureFault
number_of order None = Ok None
number_of order (Some value) = if length value == 8 then Ok (Some (number_at order w64 0 value)) else Err Length

unfoldable pub number_option : ByteOrder → List ℕ → ℕ → Result (Option ℕ) CaptureFault
number_option order list code = first_option order list code >>= number_of order

-- a count of dropped packets is 0 if it is absent
unfoldable pub drop_count : ByteOrder → List ℕ → ℕ → Result ℕ CaptureFault
drop_count order list code = do
  count ← number_option order list code
  Ok (unwrap_or count 0)
