-- The frame of a datagram.
use Rattle.std.specs.Prelude.{ℕ, ◌+◌, List, [], ◌∷◌, ◌++◌, length}
use Rattle.std.specs.Int.{w16, to_be_bytes}
use Rattle.audit_samples.specs.declared.captures.Capture.{Capture}
use Rattle.audit_samples.specs.declared.captures.UdpDatagram.{UdpDatagram}
use Rattle.audit_samples.specs.Layout.{ipv4_bytes}
use Rattle.audit_model.specs.declared.sighting.Side.{Side}
use Rattle.audit_model.specs.declared.sighting.Side.TheVariants.{Arrives, Leaves}

-- the Ethernet address of the server ends with 1, and the other one with 2
abbrev pub server : List ℕ
server = 2 ∷ 0 ∷ 0 ∷ 0 ∷ 0 ∷ 1 ∷ []

abbrev pub other : List ℕ
other = 2 ∷ 0 ∷ 0 ∷ 0 ∷ 0 ∷ 2 ∷ []

-- the receiver's comes before the sender's
abbrev pub ethernet_bytes : Side → List ℕ
ethernet_bytes Arrives = server ++ other
ethernet_bytes Leaves = other ++ server

abbrev pub udp_bytes : ℕ → ℕ → List ℕ → List ℕ
udp_bytes from to payload = to_be_bytes w16 from ++ to_be_bytes w16 to ++ to_be_bytes w16 (8 + length payload) ++ 0 ∷ 0 ∷ payload

abbrev pub frame_bytes : UdpDatagram → List ℕ
frame_bytes datagram =
    ethernet_bytes datagram.side ++ 0x08 ∷ 0x00 ∷ ipv4_bytes (28 + length datagram.payload.now) datagram.from.ip datagram.to.ip
    ++ udp_bytes datagram.from.port datagram.to.port datagram.payload.now

-- the bytes of a capture so far
abbrev pub written : Capture → List ℕ
written capture = capture.bytes.items
