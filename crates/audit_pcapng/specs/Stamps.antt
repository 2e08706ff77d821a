-- The nanoseconds of a stamp (sections 4.2 and 4.3).
use Rattle.std.specs.Prelude.{ℕ, ◌-◌, ◌*◌, ◌^◌, ℤ, pos, negsuc, ◌+ℤ◌, ◌*ℤ◌, Result, Ok, Err, nat_lt, if◌then◌else◌}
use Rattle.audit_pcapng.specs.declared.clock.Interface.{Interface}
use Rattle.audit_pcapng.specs.declared.fault.CaptureFault.{CaptureFault}
use Rattle.audit_pcapng.specs.declared.fault.CaptureFault.TheVariants.{StampRange}

-- a number of nanoseconds, if it fits 64 bits
abbrev pub moment : ℤ → Result ℕ CaptureFault
moment (pos n) = if nat_lt n (2 ^ 64) then Ok n else Err StampRange
moment (negsuc n) = Err StampRange

-- ticks of 10 to the minus resolution of a second, and the offset's seconds
unfoldable pub stamp_of : Interface → ℕ → Result ℕ CaptureFault
stamp_of interface ticks = moment (pos (ticks * 10 ^ (9 - interface.resolution)) +ℤ (interface.offset *ℤ pos (10 ^ 9)))
