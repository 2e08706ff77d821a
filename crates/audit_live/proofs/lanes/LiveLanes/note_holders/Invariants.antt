use Rattle.std.proofs.Common.{◌≡◌, take}
use Rattle.audit_live.specs.Chain.{Chain}
use Rattle.audit_live.specs.Holding.{running_at}
use Rattle.audit_live.specs.Turn.{NotesRunning}
use Rattle.audit_live.proofs.lanes.LiveLanes.note_holders.Given as goal

-- the lanes so far are noted
abbrev pub invariant-touched : goal.invariant-touched
invariant-touched l = record {
  holders : Chain (λ was number is. NotesRunning l.fn.self.lanes.items l.last was (running_at l.fn.self.lanes.items number) is) l.fn.self.holders (take l.number-index l.touched) l.self.holders;
  owed : l.self.owed ≡ l.fn.self.owed;
  lanes : l.self.lanes ≡ l.fn.self.lanes;
}
