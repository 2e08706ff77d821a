-- Ranges of ports at one address.
use Rattle.std.specs.Prelude.{◌≡◌, ◌≤◌, Bool, ◌&&◌, ◌==◌, nat_le}
use Rattle.audit_model.specs.declared.address.Addr.{Addr}
use Rattle.audit_model.specs.declared.policy.PortRange.{PortRange}

-- the address is one of the range
abbrev pub IsIn : Addr → PortRange → Type 0
IsIn addr range = (range.ip ≡ addr.ip) × (range.low ≤ addr.port) × (addr.port ≤ range.high)

-- neither range ends before the other begins
abbrev pub Meet : PortRange → PortRange → Type 0
Meet a b = (a.ip ≡ b.ip) × (a.low ≤ b.high) × (b.low ≤ a.high)

-- one address as a range
abbrev pub lone : Addr → PortRange
lone addr = record { ip = addr.ip; low = addr.port; high = addr.port }

-- the two definitions of a range above as tests
abbrev pub is_in : Addr → PortRange → Bool
is_in addr range = (range.ip == addr.ip) && nat_le range.low addr.port && nat_le addr.port range.high

abbrev pub meet : PortRange → PortRange → Bool
meet a b = (a.ip == b.ip) && nat_le a.low b.high && nat_le b.low a.high
