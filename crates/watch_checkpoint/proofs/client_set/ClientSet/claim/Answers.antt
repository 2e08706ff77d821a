use Rattle.watch_checkpoint.specs.Adding.{new_client, free_address}
use Rattle.watch_checkpoint.proofs.Drafts.{claim_both}
use Rattle.watch_checkpoint.proofs.client_set.ClientSet.claim.Goals as goal

pub returns : goal.returns
returns c clients knows =
    let pair = c.in_ok-add_pair.ensures clients knows.0 in
    claim_both c.add_address.result _ _ (new_client c.args.holder.now clients) (free_address c.args.grace c.args.moment c.args.holder.now clients) pair.0 pair.1 (c.add_address.ensures clients knows.1)
