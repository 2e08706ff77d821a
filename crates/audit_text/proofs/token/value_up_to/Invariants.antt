use Rattle.std.proofs.Common.{◌≡◌, ◌≤◌, take}
use Rattle.std.specs.Str.Parse.{digits_value}
use Rattle.audit_text.proofs.token.value_up_to.Given as goal

abbrev pub invariant-loop-byte : goal.invariant-loop-byte
invariant-loop-byte l = record { so_far : l.value ≡ digits_value 10 (take l.byte-index l.digits); within : l.value ≤ l.most }
