use Rattle.std.proofs.Common.{◌+◌, ◌≤◌, List, length, refl, sym, ap, subst, arith}
use Rattle.std.proofs.lemmas.Option.{slice_get_read}
use Rattle.audit_model.specs.declared.sighting.SightId.{SightId}
use Rattle.audit_model.specs.declared.sighting.Sighting.{Sighting}
use Rattle.audit_keys.specs.KeyFor.{key_for}
use Rattle.audit_sightings.specs.Intake.{taken, interface_at}
use Rattle.audit_faults.specs.Shown.{AreFaultsBefore}
use Rattle.audit_faults.proofs.Listing.{more_interface}
use Rattle.audit_faults.proofs.every.add_of_interface.Goals as goal

pub add_of_sighting-requires-clause-so_far : goal.add_of_sighting-requires-clause-so_far
add_of_sighting-requires-clause-so_far c =
    let named = c.interface-sighting-items.ensures.numbered c.sightings.sighting-index c.sighting-item.result
    (slice_get_read c.interface-sighting-items.result.now (length c.interface-sighting-items.result.now) c.sightings.sighting-index c.sighting-item.result refl c.sightings-test.true c.sighting-item.is) in
    subst (λ (id : SightId). AreFaultsBefore (taken c.args.intake.now) (key_for c.args.credentials.now) id c.sightings.faults.items) (sym named) c.sightings.invariant

pub sightings-preserved : goal.sightings-preserved
sightings-preserved c =
    let named = c.interface-sighting-items.ensures.numbered c.sightings.sighting-index c.sighting-item.result
    (slice_get_read c.interface-sighting-items.result.now (length c.interface-sighting-items.result.now) c.sightings.sighting-index c.sighting-item.result refl c.sightings-test.true c.sighting-item.is) in
    subst (λ (id : SightId). AreFaultsBefore (taken c.args.intake.now) (key_for c.args.credentials.now) (record { iface = id.iface; index = id.index + 1 }) c.add_of_sighting.new.faults.items) named
    c.in_ok-add_of_sighting.ensures

pub returns : goal.returns
returns c =
    let far : length (interface_at (taken c.args.intake.now) c.args.iface) ≤ c.sightings.sighting-index =
    (let e = ap (λ (row : List Sighting). length row) c.interface-sighting-items.ensures.exact in let t = c.sightings-test.false in omega (arith, e, t)) in
    more_interface (taken c.args.intake.now) (key_for c.args.credentials.now) c.args.iface c.sightings.sighting-index c.sightings.faults.items far c.sightings.invariant
