use Rattle.std.proofs.Common.{arith, ◌∙◌}
use Rattle.audit_placement.proofs.NeighbourSteps.{sighting_next, rest_of}
use Rattle.audit_placement.proofs.neighbours.interface_breach.Goals as goal

pub sightings-preserved : goal.sightings-preserved
sightings-preserved c = λ iface entries numbered notes.
    let so_far = c.sightings.invariant iface entries numbered notes in
    sighting_next entries iface c.args.sightings.now c.sightings.sighting-index c.sighting-item.result c.sightings.before c.at-place.result
    c.sightings.least c.sighting_breach.result c.least-least.result (omega arith) c.sighting-item.is numbered so_far.0 so_far.1
    (c.at-place.ensures ∙ notes c.sighting-item.result.id) c.sighting_breach.ensures c.least-least.ensures

pub returns : goal.returns
returns c = λ iface entries numbered notes.
    rest_of entries iface c.args.sightings.now c.sightings.sighting-index c.sightings.least (omega arith) (c.sightings.invariant iface entries numbered notes).0
