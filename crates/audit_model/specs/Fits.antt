-- Numbers that fit the types of an address.
use Rattle.std.specs.Prelude.{◌<◌, ◌^◌}
use Rattle.audit_model.specs.declared.address.Addr.{Addr}

-- IPv4 addresses have 32 bits, ports 16
abbrev pub AddrFits : Addr → Type 0
AddrFits a = (a.ip < 2 ^ 32) × (a.port < 2 ^ 16)
