-- The names of faults that users see, and which faults a text can have.
use Rattle.std.specs.Prelude.{ℕ, List, codes}
use Rattle.audit_pcapng.specs.declared.fault.CaptureFault.{CaptureFault}
use Rattle.audit_pcapng.specs.declared.fault.CaptureFault.TheVariants.{Torn, Magic, Length, Version, NoSection, Interface, LinkType, Resolution, StampRange, NoStamp, Drops, Limit, Memory, Failed}

abbrev pub code_of : CaptureFault → List ℕ
code_of Torn = codes "C1"
code_of Magic = codes "C2"
code_of Length = codes "C3"
code_of Version = codes "C4"
code_of NoSection = codes "C5"
code_of Interface = codes "C6"
code_of LinkType = codes "C7"
code_of Resolution = codes "C8"
code_of StampRange = codes "C9"
code_of NoStamp = codes "C10"
code_of Drops = codes "C11"
code_of Limit = codes "C12"
code_of Memory = codes "C13"
code_of Failed = codes "C14"

-- what a text's block can show: not its end, not exhausted memory, not an earlier fault
abbrev pub IsOfBlocks : CaptureFault → Type 0
IsOfBlocks Torn = ⊥
IsOfBlocks Memory = ⊥
IsOfBlocks Failed = ⊥
IsOfBlocks fault = Unit {0}
