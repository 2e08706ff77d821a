-- The start of captures.
use Rattle.std.specs.Prelude.{ℕ, ◌+◌, ◌*◌, ◌≤◌, ⊤, min, max, fold, List, [], ◌∷◌, Option, Some, None, unwrap_or}
use Rattle.audit_model.specs.declared.policy.InterfaceSkew.{InterfaceSkew}
use Rattle.audit_model.specs.declared.policy.Policy.{Policy}
use Rattle.prep_blocks.specs.declared.block.Block.{Block}
use Rattle.prep_blocks.specs.declared.block.PacketHead.{PacketHead}
use Rattle.prep_cut.specs.declared.allocations.Allocations.{Allocations}
use Rattle.prep_cut.specs.declared.stated.Stated.{Stated}

-- saturated at 64 bits
abbrev pub up_to_64 : ℕ → ℕ
up_to_64 n = min n 18446744073709551615

abbrev pub greater : ℕ → InterfaceSkew → ℕ
greater most own = max most own.skew

-- twice the greatest skew
abbrev pub slack : Policy → ℕ
slack policy = up_to_64 (fold greater policy.skew policy.skews * 2)

-- the stated moment, or else the least moment of a packet
abbrev pub begin_of : Stated → Allocations → ℕ
begin_of stated allocations = unwrap_or stated.since allocations.first

-- the last moment of departures whose arrival may be from before the captures
abbrev pub edge_of : Policy → Stated → Allocations → ℕ
edge_of policy stated allocations = up_to_64 (begin_of stated allocations + up_to_64 (policy.hold + slack policy))

abbrev pub IsAfter : ℕ → Option PacketHead → Type 0
IsAfter first None = ⊤
IsAfter first (Some head) = first ≤ head.stamp

-- no packet of these blocks is before this moment
abbrev pub AreAfter : ℕ → List Block → Type 0
AreAfter first [] = ⊤
AreAfter first (block ∷ others) = IsAfter first block.packet × AreAfter first others
