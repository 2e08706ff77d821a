use Rattle.prep_cut.proofs.Releases.{noted_one}
use Rattle.prep_cut.proofs.allocations.Allocations.note_release.Goals as goal

pub returns-in_ok-insert-clause-released : goal.returns-in_ok-insert-clause-released
returns-in_ok-insert-clause-released c =
    noted_one c.args.policy.now c.args.block.now c.args.self.now.released c.insert.new.self c.in-Some.release c.in_ok-insert.ensures.updates c.in-Some.ensures
