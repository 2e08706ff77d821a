use Rattle.std.proofs.Common.{inl, inr}
use Rattle.audit_faults.specs.Keyed.{placed_as}
use Rattle.audit_faults.proofs.arrival_keys.add_of_client.Goals as goal

pub returns-clause-here : goal.returns-clause-here
returns-clause-here c key served has = elim has [
  | inl h ↦ c.in_ok-add_channel.ensures.kept (placed_as key c.args.sighting.now.id c.args.sighting.now) (c.in_ok-add_message.ensures.here key (inl h))
  | inr (inl h) ↦ c.in_ok-add_channel.ensures.kept (placed_as key c.args.sighting.now.id c.args.sighting.now) (c.in_ok-add_message.ensures.here key (inr h))
  | inr (inr h) ↦ c.in_ok-add_channel.ensures.here key h
]
