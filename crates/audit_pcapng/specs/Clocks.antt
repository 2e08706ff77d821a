-- An interface's clock, from its options (section 4.2).
use Rattle.std.specs.Prelude.{ℕ, List, [], ◌∷◌, ℤ, pos, Option, Some, None, Result, Ok, Err}
use Rattle.std.specs.Int.{w64, cast_signed}
use Rattle.audit_pcapng.specs.declared.byte_order.ByteOrder.{ByteOrder}
use Rattle.audit_pcapng.specs.declared.clock.Interface.{Interface}
use Rattle.audit_pcapng.specs.declared.fault.CaptureFault.{CaptureFault}
use Rattle.audit_pcapng.specs.declared.fault.CaptureFault.TheVariants.{Length}
use Rattle.audit_pcapng.specs.Reading.{◌>>=◌}
use Rattle.audit_pcapng.specs.Options.{first_option, number_option}

-- if_tsresol has one byte, and is 6 if it is absent
abbrev pub resolution_of : Option (List ℕ) → Result ℕ CaptureFault
resolution_of None = Ok 6
resolution_of (Some []) = Err Length
resolution_of (Some (resolution ∷ [])) = Ok resolution
resolution_of (Some (resolution ∷ more ∷ others)) = Err Length

unfoldable pub resolution : ByteOrder → List ℕ → Result ℕ CaptureFault
resolution order options = first_option order options 9 >>= resolution_of

-- if_tsoffset is signed, and 0 if it is absent
abbrev pub offset_of : Option ℕ → ℤ
offset_of None = pos 0
offset_of (Some seconds) = cast_signed w64 seconds

unfoldable pub clock : ByteOrder → List ℕ → Result Interface CaptureFault
clock order options = do
  digits ← resolution order options
  seconds ← number_option order options 14
  Ok (record { offset = offset_of seconds; resolution = digits })
