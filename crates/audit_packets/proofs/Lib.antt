pub mod Places
pub mod Shifts
pub mod UdpHeaders
pub mod IpHeaders
pub mod EthernetHeaders
pub mod Whole
