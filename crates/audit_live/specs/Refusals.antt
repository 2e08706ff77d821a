-- When a call on a live audit is refused, the state after that, and the result at the end.
use Rattle.std.specs.Prelude.{◌≡◌, ℕ, List, Some, None, IsSome, Result, Ok, Err}
use Rattle.audit_model.specs.declared.extension.Extension.{Extension}
use Rattle.audit_model.specs.declared.verdict.Breach.{Breach}
use Rattle.audit_model.specs.declared.verdict.Verdict.{Verdict}
use Rattle.audit_model.specs.declared.verdict.Verdict.TheVariants.{NotShown}
use Rattle.audit_order.specs.Grown.{Fits}
use Rattle.audit_prefix.specs.Live.{Standing, IsNotLater, DoesNotFit, IsOutOfTurn, MayAdvance}
use Rattle.audit_sightings.specs.declared.fault.IntakeFault.{IntakeFault}
use Rattle.audit_sightings.specs.Files.{Fed, FilesEnd}
use Rattle.audit_sightings.specs.Intake.{taken}
use Rattle.audit_live.specs.declared.cause.Cause.{Cause}
use Rattle.audit_live.specs.declared.cause.Cause.TheVariants.{Broke, NoMemory, Refused}
use Rattle.audit_live.specs.declared.fault.LiveFault.{LiveFault}
use Rattle.audit_live.specs.declared.fault.LiveFault.TheVariants as faults
use Rattle.audit_live.specs.declared.fault.LiveEnd.{LiveEnd}
use Rattle.audit_live.specs.declared.fault.LiveEnd.TheVariants as ends
use Rattle.audit_live.specs.Audit.{Audit}

abbrev pub standing_of : Audit → Standing
standing_of audit = record { taken = taken audit.intake; certificate = audit.front.placing.certificate; last = audit.last }

-- Which refusal an advance has, in their order; exhausted memory may come in place of any except
-- the first two.
abbrev pub IsRefusal : Audit → ℕ → Extension → LiveFault → Type 0
IsRefusal audit horizon extension faults.Ended = IsSome audit.ended
IsRefusal audit horizon extension faults.Horizon = (audit.ended ≡ None) × IsNotLater (standing_of audit) horizon
IsRefusal audit horizon extension faults.Lane = (audit.ended ≡ None) × ¬ IsNotLater (standing_of audit) horizon × DoesNotFit (standing_of audit) extension
IsRefusal audit horizon extension faults.OutOfTurn =
    (audit.ended ≡ None) × ¬ IsNotLater (standing_of audit) horizon × Fits audit.front.placing.certificate extension × IsOutOfTurn (standing_of audit) horizon extension
IsRefusal audit horizon extension (faults.Breach breach) = (audit.ended ≡ None) × MayAdvance (standing_of audit) horizon extension
IsRefusal audit horizon extension faults.Memory = (audit.ended ≡ None) × ¬ IsNotLater (standing_of audit) horizon
IsRefusal audit horizon extension (faults.Input fault) = ⊥

-- The state after a refusal of an advance: a breach and exhausted memory end the audit, and the
-- others change nothing.
abbrev pub Leaves : Audit → Audit → LiveFault → Type 0
Leaves old new faults.Ended = new ≡ old
Leaves old new faults.Horizon = new ≡ old
Leaves old new faults.Lane = new ≡ old
Leaves old new faults.OutOfTurn = new ≡ old
Leaves old new (faults.Breach breach) = new.ended ≡ Some (Broke breach)
Leaves old new faults.Memory = new.ended ≡ Some NoMemory
Leaves old new (faults.Input fault) = ⊥

-- it is a fault of a capture that has the property
abbrev pub IsInput : LiveFault → (IntakeFault → Type 0) → Type 0
IsInput (faults.Input fault) Fact = Fact fault
IsInput faults.Horizon Fact = ⊥
IsInput faults.OutOfTurn Fact = ⊥
IsInput (faults.Breach breach) Fact = ⊥
IsInput faults.Memory Fact = ⊥
IsInput faults.Ended Fact = ⊥
IsInput faults.Lane Fact = ⊥

-- it is a breach that has the property
abbrev pub IfBreach : LiveFault → (Breach → Type 0) → Type 0
IfBreach (faults.Breach breach) Fact = Fact breach
IfBreach (faults.Input fault) Fact = Unit {0}
IfBreach faults.Horizon Fact = Unit {0}
IfBreach faults.OutOfTurn Fact = Unit {0}
IfBreach faults.Memory Fact = Unit {0}
IfBreach faults.Ended Fact = Unit {0}
IfBreach faults.Lane Fact = Unit {0}

-- the first cause, as it is reported at the end
abbrev pub end_by : Cause → Result Verdict LiveEnd
end_by (Broke breach) = Ok (NotShown breach)
end_by NoMemory = Err ends.Memory
end_by (Refused fault) = Err (ends.Input fault)

-- the end of each file is checked before there is a verdict
abbrev pub ChecksTheEnds : Result Verdict LiveEnd → List Fed → Type 0
ChecksTheEnds (Ok verdict) files = FilesEnd (Ok tt) files
ChecksTheEnds (Err ends.Memory) files = FilesEnd (Ok tt) files
ChecksTheEnds (Err (ends.Input fault)) files = FilesEnd (Err fault) files
