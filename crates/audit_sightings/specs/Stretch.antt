-- The results of packets whose payloads are in one arena.
use Rattle.std.specs.Prelude.{ℕ, ◌+◌, ◌*◌, ◌≤◌, List, map, take, drop, Option, Some, None, Result, Ok, Err, ◌≡◌}
use Rattle.audit_model.specs.declared.policy.Policy.{Policy}
use Rattle.audit_pcapng.specs.declared.packet.PacketSlice.{PacketSlice}
use Rattle.audit_pcapng.specs.Packets.{packet_of}
use Rattle.audit_sightings.specs.declared.stretch.ArenaDatagram.{ArenaDatagram}
use Rattle.audit_sightings.specs.declared.owned_datagram.OwnedDatagram.{OwnedDatagram}
use Rattle.audit_sightings.specs.declared.fault.IntakeFaultKind.{IntakeFaultKind}
use Rattle.audit_sightings.specs.declared.fault.IntakeFaultKind.TheVariants as faults
use Rattle.audit_sightings.specs.ServiceDatagram.{ServiceDatagram, service_datagram_of}

-- a datagram whose payload is that range of the arena
abbrev pub in_arena : List ℕ → ArenaDatagram → ServiceDatagram
in_arena arena kept = record { stamp = kept.stamp; side = kept.side; from = kept.from; to = kept.to; payload = take kept.len (drop kept.start arena) }

abbrev pub found_in : List ℕ → Result (Option ArenaDatagram) IntakeFaultKind → Result (Option ServiceDatagram) IntakeFaultKind
found_in arena (Ok None) = Ok None
found_in arena (Ok (Some kept)) = Ok (Some (in_arena arena kept))
found_in arena (Err fault) = Err fault

-- the payload, if there is one, is within this number of bytes
abbrev pub LiesWithin : ℕ → Result (Option ArenaDatagram) IntakeFaultKind → Type 0
LiesWithin bytes (Ok None) = Unit {0}
LiesWithin bytes (Ok (Some kept)) = kept.start + kept.len ≤ bytes
LiesWithin bytes (Err fault) = Unit {0}

-- the result of each packet
abbrev pub read_of : Policy → List PacketSlice → List (Result (Option ServiceDatagram) IntakeFaultKind)
read_of policy packets = map (λ packet. service_datagram_of policy (packet_of packet)) packets

-- the packets of the stretch of this number
abbrev pub stretch_at : List PacketSlice → ℕ → List PacketSlice
stretch_at packets number = take 2048 (drop (2048 * number) packets)

-- a datagram that owns its payload
abbrev pub owned : OwnedDatagram → ServiceDatagram
owned kept = record { stamp = kept.stamp; side = kept.side; from = kept.from; to = kept.to; payload = kept.payload }

-- it is what was found, unless memory ran out for it
abbrev pub IsOwned : Result (Option ServiceDatagram) IntakeFaultKind → Result (Option OwnedDatagram) IntakeFaultKind → Type 0
IsOwned found (Ok None) = found ≡ Ok None
IsOwned found (Ok (Some kept)) = found ≡ Ok (Some (owned kept))
IsOwned found (Err faults.Memory) = Unit {0}
IsOwned found (Err fault) = found ≡ Err fault
