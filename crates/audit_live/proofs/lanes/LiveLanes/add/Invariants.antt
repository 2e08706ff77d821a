use Rattle.std.proofs.Common.{◌≡◌, ◌+◌, take}
use Rattle.std.specs.Prelude.{vec_len}
use Rattle.audit_live.specs.Chain.{Chain}
use Rattle.audit_live.specs.Turn.{AddsLane}
use Rattle.audit_live.proofs.lanes.LiveLanes.add.Given as goal

-- the lanes so far come after the others
abbrev pub invariant-pairs : goal.invariant-pairs
invariant-pairs l = record {
  lanes : Chain AddsLane l.fn.self.lanes.items (take l.pair-index l.pairs) l.self.lanes.items;
  count : vec_len l.self.lanes ≡ vec_len l.fn.self.lanes + l.pair-index;
  owed : l.self.owed ≡ l.fn.self.owed;
  holders : l.self.holders ≡ l.fn.self.holders;
}
