-- A number or none in four bytes.
use Rattle.std.specs.Prelude.{ℕ, ◌==◌, if◌then◌else◌, Option, Some, None}
use Rattle.prep_causes.specs.declared.maybe_number.MaybeNumber.{MaybeNumber}

-- the greatest number of 32 bits represents none
abbrev pub number_in : MaybeNumber → Option ℕ
number_in maybe = if maybe.number == 4294967295 then None else Some maybe.number
