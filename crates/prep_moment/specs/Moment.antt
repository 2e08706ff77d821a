-- A moment as a text.
use Rattle.std.specs.Prelude.{ℕ, ℤ, pos, negsuc, if◌then◌else◌, nat_lt, List, Option, Some, None, Result, Ok, Err}
use Rattle.audit_text.specs.Token.{number_of}
use Rattle.audit_text.specs.declared.token.TokenFault.{TokenFault}
use Rattle.jiff.specs.Words.{parse_timestamp}

-- an instant from 1970 on, in 64 bits
abbrev pub natural_of : ℤ → Option ℕ
natural_of (pos n) = if nat_lt n 18446744073709551616 then Some n else None
natural_of (negsuc n) = None

abbrev pub natural_in : {E : Type 0} → Result ℤ E → Option ℕ
natural_in (Ok instant) = natural_of instant
natural_in (Err error) = None

-- a decimal number of nanoseconds since 1970, or else a date and time as jiff reads it
abbrev pub first_moment : Result ℕ TokenFault → Option ℕ → Option ℕ
first_moment (Ok nanoseconds) other = Some nanoseconds
first_moment (Err fault) other = other

abbrev pub moment_of : List ℕ → Option ℕ
moment_of text = first_moment (number_of 18446744073709551615 text) (natural_in (parse_timestamp text))
