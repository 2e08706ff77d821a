-- The content of a captured frame, by the places in the whole frame. For each step, that its bytes
-- were captured is checked before its conditions.
use Rattle.std.specs.Prelude.{ℕ, ◌+◌, ◌-◌, Bool, ◌==◌, not, nat_lt, if◌then◌else◌, List, length, slice_range, Option, Some, None}
use Rattle.audit_model.specs.declared.address.Addr.{Addr}
use Rattle.audit_packets.specs.Frame.{Ipv4, number, ethernet_length, ipv4_at, udp_at, carries_udp, fits_in}

pub data Datagram : Type 0 where
  Udp : Addr → Addr → List ℕ → Datagram
  Other : Datagram
  Fragment : ℕ → ℕ → Datagram
  Cut : Option (ℕ × ℕ) → Datagram

-- for a frame that ends too early
abbrev pub lacking : Bool → Option (ℕ × ℕ) → Datagram
lacking is_cut ips = if is_cut then Cut ips else Other

-- after the IPv4 header
unfoldable pub udp_datagram : List ℕ → Bool → Ipv4 → ℕ → Datagram
udp_datagram frame is_cut ip at =
    let udp = udp_at frame at in
    if nat_lt (length frame) (at + 8) then lacking is_cut (Some (ip.from, ip.to)) else
    (if not (fits_in udp ip) then Other else
    (if nat_lt (length frame) (at + udp.length) then lacking is_cut (Some (ip.from, ip.to)) else
    Udp (record { ip = ip.from; port = udp.from }) (record { ip = ip.to; port = udp.to }) (slice_range frame (at + 8) (at + udp.length))))

-- after the Ethernet header
unfoldable pub ip_datagram : List ℕ → Bool → ℕ → Datagram
ip_datagram frame is_cut at =
    let ip = ipv4_at frame at in
    if nat_lt (length frame) (at + 20) then lacking is_cut None else
    (if not (carries_udp ip) then Other else
    (if ip.is_fragment then Fragment ip.from ip.to else udp_datagram frame is_cut ip (at + ip.header_length)))

unfoldable pub datagram_of : List ℕ → Bool → Datagram
datagram_of frame is_cut =
    let at = ethernet_length frame in
    if nat_lt (length frame) at then lacking is_cut None else
    (if not (number frame (at - 2) == 0x0800) then Other else ip_datagram frame is_cut at)
