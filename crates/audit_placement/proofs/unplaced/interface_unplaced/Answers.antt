use Rattle.std.proofs.Common.{arith, sym}
use Rattle.audit_placement.specs.Places.{has_place}
use Rattle.audit_placement.proofs.UnplacedSteps.{sighting_next, rest_of}
use Rattle.audit_placement.proofs.unplaced.interface_unplaced.Goals as goal

pub sightings-preserved : goal.sightings-preserved
sightings-preserved c = λ entries knows.
    let id = c.sighting-item.result.id in
    sighting_next entries c.len-lanes.result c.len-drops.result c.args.sightings.now c.sightings.sighting-index c.sighting-item.result
    (has_place c.args.certificate.now c.args.places.now id) c.sightings.least c.sighting_unplaced-found.result c.least-least.result (omega arith) c.sighting-item.is
    (c.sightings.invariant entries knows) (knows id) c.sighting_unplaced-found.ensures c.least-least.ensures

pub returns : goal.returns
returns c = λ entries knows.
    rw (sym c.len-lanes.ensures, sym c.len-drops.ensures)
    (rest_of entries c.len-lanes.result c.len-drops.result c.args.sightings.now c.sightings.sighting-index c.sightings.least (omega arith) (c.sightings.invariant entries knows))
