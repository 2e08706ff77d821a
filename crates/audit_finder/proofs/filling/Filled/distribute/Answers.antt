use Rattle.std.proofs.Common.{◌∙◌, arith}
use Rattle.audit_finder.proofs.filling.Filled.distribute.Goals as goal

pub events-preserved : goal.events-preserved
events-preserved c =
    let so_far = c.events.invariant in (
      c.add_within.ensures.pairs ∙ so_far.0,
      omega (arith, c.in_ok-add_within.ensures.room, so_far.1),
      λ taken all old. c.add_within.ensures.named taken (all c.events.lane-index _ c.events-test.true) (so_far.2 taken all old),
      λ old. c.add_within.ensures.noted (so_far.3 old),
    )
