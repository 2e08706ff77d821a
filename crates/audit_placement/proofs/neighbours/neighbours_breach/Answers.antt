use Rattle.std.proofs.Common.{◌≡◌, ℕ, List, length, arith, ◌∙◌, subst}
use Rattle.audit_model.specs.declared.sighting.Sighting.{Sighting}
use Rattle.audit_model.specs.declared.verdict.Breach.{Breach}
use Rattle.audit_model.specs.Least.{IsLeast}
use Rattle.audit_sightings.specs.Intake.{taken, interface_at}
use Rattle.audit_placement.specs.Shows.{ShowsInterfaceOrder}
use Rattle.audit_placement.proofs.Interfaces.{Below, least_interface, least_of_all}
use Rattle.audit_placement.proofs.NeighbourSteps.{none_past}
use Rattle.audit_placement.proofs.neighbours.neighbours_breach.Goals as goal

pub interfaces-preserved : goal.interfaces-preserved
interfaces-preserved c = λ entries notes.
    let iface = c.interfaces.iface in
    rw c.least-least.ensures
    (least_interface (λ i. ShowsInterfaceOrder entries i (length (interface_at (taken c.args.intake.now) i))) iface c.interfaces.least c.interface_breach-found.result
    (c.interfaces.invariant entries notes)
    (subst (λ (row : List Sighting). IsLeast (ShowsInterfaceOrder entries iface (length row)) c.interface_breach-found.result) c.interface.ensures.exact
    (c.interface_breach-found.ensures iface entries c.interface.ensures.numbered notes)))

pub returns : goal.returns
returns c = λ entries notes.
    let taken_in = taken c.args.intake.now in
    let On : ℕ → Breach → Type 0 = λ i. ShowsInterfaceOrder entries i (length (interface_at taken_in i)) in
    let all : c.interfaces.iface ≡ c.interfaces-iface-end.result = omega (arith, c.interfaces-test.false, c.interfaces.auto.iface-end) in
    least_of_all On (length taken_in.interfaces) c.interfaces.least (λ iface b past. none_past taken_in entries iface b past)
    (subst (λ (count : ℕ). IsLeast (Below On count) c.interfaces.least) (all ∙ c.interfaces-iface-end.ensures) (c.interfaces.invariant entries notes))
