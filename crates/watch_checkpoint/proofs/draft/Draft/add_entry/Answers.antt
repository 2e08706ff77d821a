use Rattle.watch_checkpoint.specs.Adding.{with_entry}
use Rattle.watch_checkpoint.proofs.draft.Draft.add_entry.Goals as goal

pub returns-in-Client : goal.returns-in-Client
unfolding with_entry
returns-in-Client c before says = rw c.in-Client.is (c.add_client.ensures before says)
