-- What the next block depends on: the section's byte order, and the interfaces (4.1 and 4.2).
use Rattle.std.specs.Prelude.{ℕ, ◌+◌, List, [], ◌∷◌, ◌++◌, length, drop, Option, Some, None, Result, Ok, Err, nat_lt, nat_le, ◌==◌, slice_get, if◌then◌else◌}
use Rattle.std.specs.Int.{w16}
use Rattle.audit_pcapng.specs.declared.byte_order.ByteOrder.{ByteOrder}
use Rattle.audit_pcapng.specs.declared.clock.Interface.{Interface}
use Rattle.audit_pcapng.specs.declared.scope.Scope.{Scope}
use Rattle.audit_pcapng.specs.declared.fault.CaptureFault.{CaptureFault}
use Rattle.audit_pcapng.specs.declared.fault.CaptureFault.TheVariants as faults
use Rattle.audit_pcapng.specs.Numbers.{number_at}
use Rattle.audit_pcapng.specs.Reading.{◌>>=◌}
use Rattle.audit_pcapng.specs.Clocks.{clock}

-- before the first block
abbrev pub no_blocks : Scope
no_blocks = record { interfaces = []; earlier = 0; order = None }

-- a section of version 1 starts a new list of interfaces (4.1)
unfoldable pub section : Scope → ByteOrder → List ℕ → Result Scope CaptureFault
section scope order body =
    if number_at order w16 12 body == 1 then Ok (record { interfaces = scope.interfaces; earlier = length scope.interfaces; order = Some order })
    else Err faults.Version

abbrev pub with_interface : Scope → Interface → Result Scope CaptureFault
with_interface scope interface =
    if nat_lt 9 interface.resolution then Err faults.Resolution
    else if nat_le 64 (length scope.interfaces) then Err faults.Limit
    else Ok (record { interfaces = scope.interfaces ++ interface ∷ []; earlier = scope.earlier; order = scope.order })

-- an Ethernet interface with its clock, one of at most 64 of the file (4.2)
unfoldable pub description : Scope → ByteOrder → List ℕ → Result Scope CaptureFault
description scope order body =
    if number_at order w16 8 body == 1 then (clock order (drop 16 body) >>= with_interface scope)
    else Err faults.LinkType

-- an interface of the section, by its number in the section: its number in the file, and its clock
abbrev pub described : ℕ → Option Interface → Result (ℕ × Interface) CaptureFault
described number None = Err faults.Interface
described number (Some interface) = Ok (number, interface)

unfoldable pub interface_of : Scope → ℕ → Result (ℕ × Interface) CaptureFault
interface_of scope id = described (scope.earlier + id) (slice_get scope.interfaces (scope.earlier + id))
