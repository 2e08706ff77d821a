use Rattle.watch_checkpoint.proofs.Drafts.{line_added}
use Rattle.watch_checkpoint.proofs.draft.DraftLines.take_line.Goals as goal

pub returns : goal.returns
returns c before says = line_added c.add_entry.result before c.args.line.now c.in_ok-entry.entry c.add_entry.new.self c.in_ok-entry.ensures (c.add_entry.ensures before says)
