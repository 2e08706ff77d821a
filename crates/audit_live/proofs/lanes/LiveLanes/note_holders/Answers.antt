use Rattle.std.proofs.Common.{refl, ◌∙◌, arith, ℕ}
use Rattle.audit_live.specs.declared.holders.Holders.{Holders}
use Rattle.audit_live.specs.Holding.{running_at}
use Rattle.audit_live.specs.Turn.{NotesRunning}
use Rattle.audit_live.proofs.Chains.{chain_next}
use Rattle.audit_live.proofs.lanes.LiveLanes.note_holders.Goals as goal

pub touched-init : goal.touched-init
touched-init c = record { holders = refl; owed = refl; lanes = refl }

pub note_running-requires : goal.note_running-requires
note_running-requires c = rw c.touched.invariant.lanes (c.requires c.touched.number-index _ (omega arith))

pub touched-preserved : goal.touched-preserved
touched-preserved c = record {
  holders = chain_next (λ (was : Holders) (number : ℕ) (is : Holders). NotesRunning c.args.self.now.lanes.items c.args.last was (running_at c.args.self.now.lanes.items number) is)
      c.args.self.now.holders c.args.touched.now c.touched.number-index _ c.touched.self.holders c.note_running.new.self.holders (omega arith) c.touched.invariant.holders (rw c.touched.invariant.lanes at c.in_ok-note_running.ensures.holders);
  owed = c.note_running.ensures.rest.0 ∙ c.touched.invariant.owed;
  lanes = c.note_running.ensures.rest.1 ∙ c.touched.invariant.lanes;
}
