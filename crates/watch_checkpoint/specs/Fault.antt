-- The fault of a line, by the fault of one of its words.
use Rattle.std.specs.Prelude.{Bool, true, false, if◌then◌else◌, Result, Ok, Err}
use Rattle.audit_text.specs.declared.line_fault.LineFault.{LineFault}
use Rattle.audit_text.specs.declared.token.TokenFault.{TokenFault}
use Rattle.audit_text.specs.declared.token.TokenFault.TheVariants as token
use Rattle.watch_checkpoint.specs.declared.fault.CheckpointFault.{CheckpointFault}
use Rattle.watch_checkpoint.specs.declared.fault.CheckpointFault.TheVariants as faults
use Rattle.watch_checkpoint.specs.declared.fault.LineKind.{LineKind}
use Rattle.watch_checkpoint.specs.declared.fault.LineKind.TheVariants.{Line, Number, Order, ClientDouble, AddressHeld, Placement, Memory}

abbrev pub kind_of_token : TokenFault → LineKind
kind_of_token token.Shape = Line
kind_of_token token.Number = Number

-- the result of a line, by that of its word
abbrev pub of_word : {A : Type 0} → Result A TokenFault → Result A LineKind
of_word (Ok x) = Ok x
of_word (Err fault) = Err (kind_of_token fault)

abbrev pub is_memory : LineKind → Bool
is_memory Memory = true
is_memory Line = false
is_memory Number = false
is_memory Order = false
is_memory ClientDouble = false
is_memory AddressHeld = false
is_memory Placement = false

-- the fault of a checkpoint, by that of its line
abbrev pub fault_of : LineFault LineKind → CheckpointFault
fault_of fault = if is_memory fault.kind then faults.Memory else faults.Line fault.line fault.kind
