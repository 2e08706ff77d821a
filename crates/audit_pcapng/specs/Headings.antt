-- The content of a block's first bytes, or the fault that they show (sections 3.1 and 4.1).
use Rattle.std.specs.Prelude.{ℕ, ◌%◌, ◌≤◌, List, length, Option, Some, None, Result, Ok, Err, nat_lt, ◌==◌, ◌||◌, not, if◌then◌else◌}
use Rattle.std.specs.Int.{w32}
use Rattle.audit_pcapng.specs.declared.byte_order.ByteOrder.{ByteOrder}
use Rattle.audit_pcapng.specs.declared.byte_order.ByteOrder.TheVariants.{Little, Big}
use Rattle.audit_pcapng.specs.declared.block_kind.BlockKind.{BlockKind}
use Rattle.audit_pcapng.specs.declared.block_kind.BlockKind.TheVariants as kinds
use Rattle.audit_pcapng.specs.declared.heading.Heading.{Heading}
use Rattle.audit_pcapng.specs.declared.fault.CaptureFault.{CaptureFault}
use Rattle.audit_pcapng.specs.declared.fault.CaptureFault.TheVariants.{Magic, Length, NoSection, Limit}
use Rattle.audit_pcapng.specs.Numbers.{number_at}

-- the blocks' types (section 4)
abbrev pub kind_of : ℕ → BlockKind
kind_of number =
    if number == 0x0A0D0D0A then kinds.Section
    else if number == 1 then kinds.Interface
    else if number == 5 then kinds.Statistics
    else if number == 6 then kinds.Packet
    else if (number == 2) || (number == 3) then kinds.NoStamp
    else kinds.Other

-- the total length of a block without options and data
abbrev pub least_length : BlockKind → ℕ
least_length kinds.Section = 28
least_length kinds.Interface = 20
least_length kinds.Statistics = 24
least_length kinds.Packet = 32
least_length kinds.NoStamp = 12
least_length kinds.Other = 12

-- no block is shorter than its kind allows
abbrev pub IsLong : Heading → Type 0
IsLong heading = (12 ≤ heading.length) × (least_length heading.kind ≤ heading.length)

-- a kind and a byte order, with the total length at byte 4
unfoldable pub heading_of : BlockKind → ByteOrder → List ℕ → Result Heading CaptureFault
heading_of kind order bytes =
    let total = number_at order w32 4 bytes in
    if not (total % 4 == 0) || nat_lt total (least_length kind) then Err Length
    else if nat_lt 16777216 total then Err Limit
    else Ok (record { length = total; kind = kind; order = order })

abbrev pub some_heading : Result Heading CaptureFault → Result (Option Heading) CaptureFault
some_heading (Ok heading) = Ok (Some heading)
some_heading (Err fault) = Err fault

-- a section's byte order is that in which its magic is 0x1A2B3C4D (section 4.1)
unfoldable pub section_heading : List ℕ → Result (Option Heading) CaptureFault
section_heading bytes =
    if nat_lt (length bytes) 12 then Ok None
    else if number_at Little w32 8 bytes == 0x1A2B3C4D then some_heading (heading_of kinds.Section Little bytes)
    else if number_at Big w32 8 bytes == 0x1A2B3C4D then some_heading (heading_of kinds.Section Big bytes)
    else Err Magic

-- a block of the section before it, if there is one
unfoldable pub block_heading : Option ByteOrder → List ℕ → Result (Option Heading) CaptureFault
block_heading None bytes = Err NoSection
block_heading (Some order) bytes =
    if nat_lt (length bytes) 8 then Ok None
    else some_heading (heading_of (kind_of (number_at order w32 0 bytes)) order bytes)

-- the heading, nothing if the bytes are too few to show it, or the fault that they show
unfoldable pub heading : Option ByteOrder → List ℕ → Result (Option Heading) CaptureFault
heading section bytes =
    if nat_lt (length bytes) 4 then Ok None
    else if number_at Big w32 0 bytes == 0x0A0D0D0A then section_heading bytes
    else block_heading section bytes
