-- The tables of clients, as contracts see them.
use Rattle.std.specs.Prelude.{◌≡◌, ℕ, Option, Some, None, option_and_then}
use Rattle.std.specs.BTreeMap.{get}
use Rattle.audit_model.specs.declared.pair.Pair.{Pair}
use Rattle.audit_model.specs.LanePairs.{pair_cmp}
use Rattle.audit_rules.specs.declared.table.LaneTable.{LaneTable}
use Rattle.audit_rules.specs.Allocation.{Allocation}
use Rattle.audit_rules.specs.Effect.{standing}
use Rattle.audit_rules.specs.Purging.{IsPurgedTable}
use Rattle.audit_machine.specs.declared.tables.Tables.{Tables}

abbrev pub table_of : Tables → Pair → Option LaneTable
table_of tables c = get pair_cmp tables.tables (c.client, c.listen)

abbrev pub allocation_in : LaneTable → Option Allocation
allocation_in table = (standing table).allocation

-- the allocation of a client
abbrev pub allocation_of : Tables → Pair → Option Allocation
allocation_of tables c = option_and_then allocation_in (table_of tables c)

-- each table is of the client that has it
abbrev pub AreOwn : Tables → Type 0
AreOwn tables = (c : Pair) (table : LaneTable) → table_of tables c ≡ Some table → ((standing table).client ≡ c.client) × ((standing table).listen ≡ c.listen)

-- neither table is there, or the new one is the old one, purged
abbrev pub AreTablesPurged : ℕ → ℕ → Option LaneTable → Option LaneTable → Type 0
AreTablesPurged moment grace None new = new ≡ None
AreTablesPurged moment grace (Some old) None = ⊥
AreTablesPurged moment grace (Some old) (Some new) = IsPurgedTable moment grace (standing old) (standing new)
