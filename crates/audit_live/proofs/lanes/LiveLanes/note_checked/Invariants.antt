use Rattle.std.proofs.Common.{◌≡◌, take}
use Rattle.std.specs.Prelude.{vec_len}
use Rattle.audit_live.specs.Chain.{Chain}
use Rattle.audit_live.specs.Turn.{NotesChecked}
use Rattle.audit_live.proofs.lanes.LiveLanes.note_checked.Given as goal

-- what ended in the lanes so far is checked
abbrev pub invariant-touched : goal.invariant-touched
invariant-touched l = record {
  lanes : Chain NotesChecked l.fn.self.lanes.items (take l.number-index l.touched) l.self.lanes.items;
  count : vec_len l.self.lanes ≡ vec_len l.fn.self.lanes;
  owed : l.self.owed ≡ l.fn.self.owed;
  holders : l.self.holders ≡ l.fn.self.holders;
}
