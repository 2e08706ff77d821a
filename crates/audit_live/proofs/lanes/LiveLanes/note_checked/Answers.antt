use Rattle.std.proofs.Common.{refl, ◌∙◌, arith}
use Rattle.audit_live.specs.Turn.{NotesChecked}
use Rattle.audit_live.proofs.Chains.{chain_next}
use Rattle.audit_live.proofs.lanes.LiveLanes.note_checked.Goals as goal

pub touched-init : goal.touched-init
touched-init c = record { lanes = refl; count = refl; owed = refl; holders = refl }

pub note_checked_of-requires : goal.note_checked_of-requires
note_checked_of-requires c = rw c.touched.invariant.count (c.requires c.touched.number-index _ (omega arith))

pub touched-preserved : goal.touched-preserved
touched-preserved c = record {
  lanes = chain_next NotesChecked c.args.self.now.lanes.items c.args.touched.now c.touched.number-index _ c.touched.self.lanes.items c.note_checked_of.new.self.lanes.items (omega arith) c.touched.invariant.lanes c.note_checked_of.ensures.lanes;
  count = c.note_checked_of.ensures.count ∙ c.touched.invariant.count;
  owed = c.note_checked_of.ensures.rest.0 ∙ c.touched.invariant.owed;
  holders = c.note_checked_of.ensures.rest.1 ∙ c.touched.invariant.holders;
}
