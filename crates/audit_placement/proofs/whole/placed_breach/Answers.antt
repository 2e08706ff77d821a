use Rattle.std.proofs.Common.{ap, []}
use Rattle.audit_sightings.specs.Intake.{taken}
use Rattle.audit_placement.specs.Entries.{lanes_entries, at_of}
use Rattle.audit_placement.specs.FirstPlace.{Notes}
use Rattle.audit_placement.proofs.LeastOfWhole.{least_placed, none_of_first}
use Rattle.audit_placement.proofs.whole.placed_breach.Goals as goal

pub returns-clause-shown : goal.returns-clause-shown
returns-clause-shown c =
    let certificate = c.args.certificate.now in
    let of_lanes = lanes_entries 0 certificate.lanes in
    let empty : Notes certificate c.in_ok-first.first [] = λ sight. ap (at_of certificate) (c.in_ok-first.ensures sight) in
    let noted = c.in_ok-of_lanes.ensures.notes empty in
    least_placed (taken c.args.intake.now) certificate _ _ _ _ _
    (c.in_ok-of_lanes.ensures.shown empty)
    (c.in_ok-of_drops.ensures.shown of_lanes noted)
    c.least-of_entries.ensures
    (c.neighbours_breach-of_neighbours.ensures _ (c.in_ok-of_drops.ensures.notes of_lanes noted))
    c.least.ensures

pub returns-clause-named : goal.returns-clause-named
returns-clause-named c =
    none_of_first _ _ _ _ c.least.ensures (none_of_first _ _ _ _ c.least-of_entries.ensures c.in_ok-of_lanes.ensures.named)

pub returns-clause-notes : goal.returns-clause-notes
returns-clause-notes c =
    let certificate = c.args.certificate.now in
    let empty : Notes certificate c.in_ok-first.first [] = λ sight. ap (at_of certificate) (c.in_ok-first.ensures sight) in
    c.in_ok-of_drops.ensures.notes (lanes_entries 0 certificate.lanes) (c.in_ok-of_lanes.ensures.notes empty)
