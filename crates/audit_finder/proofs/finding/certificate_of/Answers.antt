use Rattle.std.proofs.Common.{◌≡◌, ◌≤◌, List, ◌∙◌, arith, sym, ap, map, length, subst, length-take}
use Rattle.std.proofs.lemmas.List.{length-map}
use Rattle.std.specs.List.{IsDistinct}
use Rattle.audit_model.specs.declared.certificate.CertLane.{CertLane}
use Rattle.audit_sightings.specs.Intake.{taken}
use Rattle.audit_clients.specs.Clients.{Pair, same}
use Rattle.audit_finder.specs.Found.{pair_of, AllNamed}
use Rattle.audit_finder.specs.Departures.{out_count}
use Rattle.audit_finder.proofs.Found.{lanes_apart}
use Rattle.audit_finder.proofs.finding.certificate_of.Goals as goal

pub invariant_of-result-clause-distinct : goal.invariant_of-result-clause-distinct
invariant_of-result-clause-distinct c =
    let pairs : map pair_of c.from.result ≡ map pair_of c.args.filled.lanes.items =
    ap (map pair_of) c.from.ensures ∙ c.in_ok-lanes-2.ensures.pairs ∙ c.in_ok-lanes.ensures.pairs in
    lanes_apart c.from.result (subst (IsDistinct same) (sym pairs) c.requires.apart)

pub invariant_of-result-clause-few_lanes : goal.invariant_of-result-clause-few_lanes
invariant_of-result-clause-few_lanes c =
    let pairs : map pair_of c.from.result ≡ map pair_of c.args.filled.lanes.items =
    ap (map pair_of) c.from.ensures ∙ c.in_ok-lanes-2.ensures.pairs ∙ c.in_ok-lanes.ensures.pairs in
    let size : length c.from.result ≡ length c.args.filled.lanes.items = sym (length-map c.from.result pair_of) ∙ ap (λ (ps : List Pair). length ps) pairs ∙ length-map c.args.filled.lanes.items pair_of in
    omega (arith, size, c.requires.few)

pub invariant_of-result-clause-few_events : goal.invariant_of-result-clause-few_events
invariant_of-result-clause-few_events c =
    rw (c.from.ensures, c.from-2.ensures, c.truncate.ensures.items, c.in_ok-lanes-2.ensures.count)
    (omega (arith, length-take c.in_ok-lanes.room c.there-drops.result.items, c.in_ok-lanes.ensures.room, c.requires.room))

pub returns-clause-events : goal.returns-clause-events
returns-clause-events c =
    subst (AllNamed (taken c.args.intake.now)) (sym c.from.ensures)
    (c.in_ok-lanes-2.ensures.named (taken c.args.intake.now) (c.in_ok-lanes.ensures.named c.requires.named))

pub returns-clause-once : goal.returns-clause-once
returns-clause-once c s =
    let once = c.in_ok-lanes.ensures.once c.requires.noted s in
    subst (λ (lanes : List CertLane). out_count s lanes ≤ 1) (sym c.from.ensures) (omega (arith, c.in_ok-lanes-2.ensures.outs s, once))
