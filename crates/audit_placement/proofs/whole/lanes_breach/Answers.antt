use Rattle.std.proofs.Common.{All, [], take, sym, ◌∙◌, subst, arith, List}
use Rattle.std.proofs.lemmas.List.{take_all}
use Rattle.std.proofs.lemmas.List.Elements.{All-more, All-same}
use Rattle.audit_model.specs.declared.certificate.CertLane.{CertLane}
use Rattle.audit_model.specs.Least.{IsLeast}
use Rattle.audit_model.proofs.Breaches.{none_more, none_weaker}
use Rattle.audit_sightings.specs.Intake.{NamesWhatIsThere, taken}
use Rattle.audit_placement.specs.declared.entry.Entry.{Entry}
use Rattle.audit_placement.specs.Entries.{lane_entries, lanes_entries}
use Rattle.audit_placement.specs.FirstPlace.{Notes}
use Rattle.audit_placement.specs.Shows.{ShowsFrom}
use Rattle.audit_placement.proofs.Turns.{least_append, lanes_more}
use Rattle.audit_placement.proofs.whole.lanes_breach.Goals as goal

pub lanes-preserved : goal.lanes-preserved
lanes-preserved c =
    let named : CertLane → Type 0 = λ lane. All (NamesWhatIsThere (taken c.args.intake.now)) lane.events in
    let items = c.as_slice-lane-items.result.now in
    let number = c.lanes.number in
    let lane = c.lane-item.result in
    let so_far = lanes_entries 0 (take number items) in
    let grown = lanes_more items number lane (omega arith) c.lane-item.is in
    record {
      shown = λ empty. rw (grown, c.least-least.ensures)
          (least_append (taken c.args.intake.now) [] so_far (lane_entries number lane) c.lanes.least c.in_ok-found.found
          (c.lanes.invariant.shown empty) (c.in_ok-found.ensures.shown so_far (c.lanes.invariant.notes empty)));
      notes = λ empty. subst (λ (es : List Entry). Notes c.args.certificate.now c.lane_breach.new.first es) (sym grown) (c.in_ok-found.ensures.notes so_far (c.lanes.invariant.notes empty));
      named = none_more _ _ _ _ _ _ c.least-least.ensures c.lanes.invariant.named c.in_ok-found.ensures.named
          (λ all one. All-more named items number lane (omega arith) all (subst named c.lane-item.is one));
    }

pub returns-clause-shown : goal.returns-clause-shown
returns-clause-shown c = λ empty.
    let items = c.as_slice-lane-items.result.now in
    subst (λ (lanes : List CertLane). IsLeast (ShowsFrom (taken c.args.intake.now) [] (lanes_entries 0 lanes)) c.lanes.least)
    (take_all c.lanes.number items (omega arith) ∙ c.as_slice-lane-items.ensures) (c.lanes.invariant.shown empty)

pub returns-clause-named : goal.returns-clause-named
returns-clause-named c =
    let named : CertLane → Type 0 = λ lane. All (NamesWhatIsThere (taken c.args.intake.now)) lane.events in
    let items = c.as_slice-lane-items.result.now in
    none_weaker _ _ _ c.lanes.invariant.named
    (λ all. All-same named _ (take c.lanes.number items) (sym (take_all c.lanes.number items (omega arith) ∙ c.as_slice-lane-items.ensures)) all)
