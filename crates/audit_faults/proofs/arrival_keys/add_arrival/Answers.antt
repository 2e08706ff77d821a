use Rattle.std.proofs.Common.{inl, inr}
use Rattle.audit_faults.specs.Keyed.{placed_as}
use Rattle.audit_faults.proofs.arrival_keys.add_arrival.Goals as goal

pub returns-clause-here : goal.returns-clause-here
returns-clause-here c key arrival =
    let s = c.args.sighting.now in
    elim arrival.1 [
      | inl client ↦ c.in_ok-add_of_peer.ensures.kept (placed_as key s.id s) (c.in_ok-add_of_client.ensures.here key client.0 client.1)
      | inr peer ↦ c.in_ok-add_of_peer.ensures.here key peer.0 peer.1
    ]
