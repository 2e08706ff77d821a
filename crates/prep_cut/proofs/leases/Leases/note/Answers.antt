use Rattle.prep_cut.proofs.Adding.{only_block}
use Rattle.prep_cut.proofs.leases.Leases.note.Goals as goal

pub returns-in_ok-add-clause-only : goal.returns-in_ok-add-clause-only
returns-in_ok-add-clause-only c =
    only_block c.args.policy.now c.args.block.now c.in-Some.event c.args.self.now c.add.new.self c.in-Some.ensures.found c.in_ok-add.ensures.only
