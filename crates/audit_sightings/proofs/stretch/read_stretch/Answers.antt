use Rattle.std.proofs.Common.{arith, ◌∙◌}
use Rattle.audit_sightings.proofs.StretchSteps.{read_more}
use Rattle.audit_sightings.proofs.stretch.read_stretch.Goals as goal

pub packets-preserved : goal.packets-preserved
packets-preserved c =
    let grows = c.in_ok-store.ensures.grows in
    rw c.in_ok-push.ensures.items (read_more c.args.policy.now c.args.packets.now c.packets.packet-index _ c.packets.arena.items grows.0 c.store.new.arena.items _ _ c.packets.founds.items c.in_ok-store.field-0 c.packets-test.true (omega arith) (omega arith) grows.1 c.packets.invariant
    (c.in_ok-store.ensures.found ∙ c.service_datagram.ensures) c.in_ok-store.ensures.within)
