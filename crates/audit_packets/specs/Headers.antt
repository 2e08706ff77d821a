-- The headers of the code as the definition has them.
use Rattle.audit_packets.specs.declared.ipv4.Ipv4 as code_ip
use Rattle.audit_packets.specs.declared.udp.Udp as code_udp
use Rattle.audit_packets.specs.Frame.{Ipv4, Udp_header}

abbrev pub ipv4_of : code_ip.Ipv4 → Ipv4
ipv4_of h = record { version = h.version; header_length = h.header_length; total_length = h.total_length; is_fragment = h.is_fragment; protocol = h.protocol; from = h.from; to = h.to }

abbrev pub udp_of : code_udp.Udp → Udp_header
udp_of h = record { from = h.from; to = h.to; length = h.length }
