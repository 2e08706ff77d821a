use Rattle.std.proofs.Common.{◌≡◌, ◌≤◌, ℕ, Some, List, length, refl, sym, ap, subst, arith}
use Rattle.std.specs.Prelude.{slice_get, Contains}
use Rattle.std.proofs.lemmas.Option.{slice_get_read}
use Rattle.audit_model.specs.declared.policy.Policy.{Policy}
use Rattle.audit_model.specs.declared.sighting.SightId.{SightId}
use Rattle.audit_model.specs.declared.sighting.Sighting.{Sighting}
use Rattle.audit_sightings.specs.Intake.{taken, interface_at, sighting_at}
use Rattle.audit_whole.proofs.Placement.{of_row}
use Rattle.audit_faults.specs.ArrivalKeys.{IsArrivalBy}
use Rattle.audit_faults.specs.Keyed.{placed_as}
use Rattle.audit_faults.proofs.Keying.{more_keyed, row_keyed}
use Rattle.audit_faults.proofs.arrival_keys.add_row.Goals as goal

pub sightings-preserved : goal.sightings-preserved
sightings-preserved c =
    let row : List Sighting = c.interface-sighting-items.result.now in
    let s : Sighting = c.sighting-item.result in
    let here : slice_get row c.sightings.sighting-index ≡ Some s = slice_get_read row (length row) c.sightings.sighting-index s refl c.sightings-test.true c.sighting-item.is in
    let id : SightId = record { iface = c.args.iface; index = c.sightings.sighting-index } in
    let named : s.id ≡ id = c.interface-sighting-items.ensures.numbered c.sightings.sighting-index s here in
    let there : sighting_at (taken c.args.intake.now) id ≡ Some s =
    of_row (taken c.args.intake.now) c.args.iface c.sightings.sighting-index s (subst (λ (xs : List Sighting). slice_get xs c.sightings.sighting-index ≡ Some s) c.interface-sighting-items.ensures.exact here) in
    more_keyed (taken c.args.intake.now) (IsArrivalBy (taken c.args.intake.now).policy) id s c.sightings.keyed.items c.add_arrival.new.keyed.items c.sightings.widest c.wider-widest.result c.sightings.invariant there
    (λ (key : ℕ) (has : IsArrivalBy (taken c.args.intake.now).policy key s).
    subst (λ (it : SightId). Contains c.add_arrival.new.keyed.items (placed_as key it s)) named (c.in_ok-add_arrival.ensures.here key (subst (λ (p : Policy). IsArrivalBy p key s) (sym c.policy.ensures) has)))
    c.in_ok-add_arrival.ensures.kept c.wider-widest.ensures.kept c.wider-widest.ensures.narrow

pub returns : goal.returns
returns c =
    let far : length (interface_at (taken c.args.intake.now) c.args.iface) ≤ c.sightings.sighting-index =
    (let e = ap (λ (row : List Sighting). length row) c.interface-sighting-items.ensures.exact in let t = c.sightings-test.false in omega (arith, e, t)) in
    row_keyed (taken c.args.intake.now) (IsArrivalBy (taken c.args.intake.now).policy) c.args.iface c.sightings.sighting-index c.sightings.keyed.items c.sightings.widest far c.sightings.invariant
