-- The code's content of a frame, in the definition's terms.
use Rattle.std.specs.Prelude.{◌≡◌, ℕ, List}
use Rattle.audit_model.specs.declared.address.Addr.{Addr}
use Rattle.audit_packets.specs.declared.seen.Seen.{Seen}
use Rattle.audit_packets.specs.declared.seen.Seen.TheVariants as seen
use Rattle.audit_packets.specs.Reading.{Datagram, Udp, Other, Fragment, Cut}

abbrev pub view : Seen → Datagram
view (seen.Udp from to payload) = Udp from to payload.now
view seen.Other = Other
view (seen.Fragment from to) = Fragment from to
view (seen.Cut ips) = Cut ips

-- it is a UDP datagram with these addresses and this payload
abbrev pub IsUdp : Seen → Addr → Addr → List ℕ → Type 0
IsUdp seen from to payload = view seen ≡ Udp from to payload
