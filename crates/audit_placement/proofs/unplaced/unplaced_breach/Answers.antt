use Rattle.std.proofs.Common.{◌≡◌, ℕ, List, length, arith, ◌∙◌, subst}
use Rattle.audit_model.specs.declared.sighting.Sighting.{Sighting}
use Rattle.audit_model.specs.declared.verdict.Breach.{Breach}
use Rattle.audit_model.specs.Least.{IsLeast}
use Rattle.audit_sightings.specs.Intake.{taken, interface_at}
use Rattle.audit_placement.specs.Shows.{ShowsUnplaced}
use Rattle.audit_placement.proofs.Interfaces.{Below, least_interface, least_of_all}
use Rattle.audit_placement.proofs.UnplacedSteps.{none_past}
use Rattle.audit_placement.proofs.unplaced.unplaced_breach.Goals as goal

pub interfaces-preserved : goal.interfaces-preserved
interfaces-preserved c = λ entries knows.
    let lanes = length c.args.certificate.now.lanes in
    let drops = length c.args.certificate.now.drops in
    rw c.least-least.ensures
    (least_interface (λ i. ShowsUnplaced entries lanes drops (interface_at (taken c.args.intake.now) i)) c.interfaces.iface c.interfaces.least c.interface_unplaced-found.result
    (c.interfaces.invariant entries knows)
    (subst (λ (row : List Sighting). IsLeast (ShowsUnplaced entries lanes drops row) c.interface_unplaced-found.result) c.interface.ensures.exact
    (c.interface_unplaced-found.ensures entries knows)))

pub returns : goal.returns
returns c = λ entries knows.
    let taken_in = taken c.args.intake.now in
    let lanes = length c.args.certificate.now.lanes in
    let drops = length c.args.certificate.now.drops in
    let On : ℕ → Breach → Type 0 = λ i. ShowsUnplaced entries lanes drops (interface_at taken_in i) in
    let all : c.interfaces.iface ≡ c.interfaces-iface-end.result = omega (arith, c.interfaces-test.false, c.interfaces.auto.iface-end) in
    least_of_all On (length taken_in.interfaces) c.interfaces.least (λ iface b past. none_past taken_in entries lanes drops iface b past)
    (subst (λ (count : ℕ). IsLeast (Below On count) c.interfaces.least) (all ∙ c.interfaces-iface-end.ensures) (c.interfaces.invariant entries knows))
