use Rattle.watch_checkpoint.specs.Content.{header_content}
use Rattle.watch_checkpoint.proofs.Drafts.{empty_progress}
use Rattle.watch_checkpoint.proofs.draft.Draft.new.Goals as goal

pub returns : goal.returns
returns c = record {
  same = empty_progress c.args.grace (header_content c.args.header) c.args.moment c.new.result.items c.new-2.result.items c.new-3.result.items c.new-4.result.items c.new.ensures.items c.new-2.ensures.items c.new-3.ensures.items c.new-4.ensures.items;
  knows = c.new-5.ensures c.args.grace c.args.moment;
}
