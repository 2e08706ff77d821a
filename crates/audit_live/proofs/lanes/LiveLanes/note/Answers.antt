use Rattle.audit_live.proofs.Takes.{notes_turn}
use Rattle.audit_live.proofs.lanes.LiveLanes.note.Goals as goal

pub returns-clause-notes : goal.returns-clause-notes
returns-clause-notes c =
    notes_turn c.args.last c.args.touched.now c.args.self.now c.note_checked.new.self c.note_holders.new.self c.note_checked.ensures.lanes c.note_checked.ensures.rest.0 c.note_checked.ensures.rest.1
    c.in_ok-note_holders.ensures.holders c.in_ok-note_holders.ensures.rest.0 c.in_ok-note_holders.ensures.rest.1
