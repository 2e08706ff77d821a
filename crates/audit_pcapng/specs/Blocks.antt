-- A whole block: its packet, and what the blocks after it depend on, or its first fault (section
-- 4).
use Rattle.std.specs.Prelude.{◌≡◌, ◌≢◌, ℕ, ◌+◌, ◌-◌, ◌*◌, ◌^◌, List, length, take, drop, Option, Some, None, Result, Ok, Err, nat_lt, ◌==◌, ◌&&◌, if◌then◌else◌}
use Rattle.std.specs.Int.{w32}
use Rattle.audit_pcapng.specs.declared.byte_order.ByteOrder.{ByteOrder}
use Rattle.audit_pcapng.specs.declared.block_kind.BlockKind.{BlockKind}
use Rattle.audit_pcapng.specs.declared.block_kind.BlockKind.TheVariants as kinds
use Rattle.audit_pcapng.specs.declared.heading.Heading.{Heading}
use Rattle.audit_pcapng.specs.declared.packet.Packet.{Packet}
use Rattle.audit_pcapng.specs.declared.scope.Scope.{Scope}
use Rattle.audit_pcapng.specs.declared.fault.CaptureFault.{CaptureFault}
use Rattle.audit_pcapng.specs.declared.fault.CaptureFault.TheVariants as faults
use Rattle.audit_pcapng.specs.Numbers.{number_at, padded}
use Rattle.audit_pcapng.specs.Reading.{◌>>=◌}
use Rattle.audit_pcapng.specs.Options.{drop_count}
use Rattle.audit_pcapng.specs.Sections.{section, description, interface_of}
use Rattle.audit_pcapng.specs.Stamps.{stamp_of}

-- neither the interface nor the system dropped a packet (4.6)
unfoldable pub statistics : Scope → ByteOrder → List ℕ → Result Scope CaptureFault
statistics scope order body = do
  interface ← interface_of scope (number_at order w32 8 body)
  by_interface ← drop_count order (drop 20 body) 5
  by_system ← drop_count order (drop 20 body) 7
  if (by_interface == 0) && (by_system == 0) then Ok scope else Err faults.Drops

-- the data, the interface, the options and the stamp of a packet, in this order (4.3)
unfoldable pub packet : Scope → ByteOrder → List ℕ → Result Packet CaptureFault
packet scope order body =
    let captured = number_at order w32 20 body in
    if nat_lt (length (drop 28 body)) (padded captured) then Err faults.Length
    else (do
      interface ← interface_of scope (number_at order w32 8 body)
      dropped ← drop_count order (drop (padded captured) (drop 28 body)) 4
      stamp ← (if dropped == 0 then stamp_of interface.1 (number_at order w32 12 body * 2 ^ 32 + number_at order w32 16 body) else Err faults.Drops)
      Ok (record { stamp = stamp; bytes = take captured (drop 28 body); iface = interface.0; captured = captured; original = number_at order w32 24 body }))

abbrev pub silent : Scope → Result (Scope × Option Packet) CaptureFault
silent scope = Ok (scope, None)

-- the content of a block of each kind
unfoldable pub content : BlockKind → Scope → ByteOrder → List ℕ → Result (Scope × Option Packet) CaptureFault
content kinds.Section scope order body = section scope order body >>= silent
content kinds.Interface scope order body = description scope order body >>= silent
content kinds.Statistics scope order body = statistics scope order body >>= silent
content kinds.Packet scope order body = packet scope order body >>= λ p. Ok (scope, Some p)
content kinds.NoStamp scope order body = Err faults.NoStamp
content kinds.Other scope order body = silent scope

-- a block ends with its total length once more (3.1)
unfoldable pub block : Scope → Heading → List ℕ → Result (Scope × Option Packet) CaptureFault
block scope heading bytes =
    let body = take (length bytes - 4) bytes in
    if number_at heading.order w32 (length bytes - 4) bytes == length bytes then content heading.kind scope heading.order body
    else Err faults.Length

-- the result of reading a block: after a fault nothing is changed
abbrev pub Takes : Result (Option Packet) CaptureFault → Scope → Scope → Result (Scope × Option Packet) CaptureFault → Type 0
Takes (Ok given) old new read = read ≡ Ok (new, given)
Takes (Err fault) old new read = (new ≡ old) × (fault ≢ faults.Memory → read ≡ Err fault)
