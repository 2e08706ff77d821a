use Rattle.std.proofs.Common.{take, length, ◌<◌, arith, length-take}
use Rattle.std.proofs.lemmas.List.{take_more}
use Rattle.std.proofs.lemmas.List.Elements.{All-more}
use Rattle.audit_sightings.specs.Intake.{NamesWhatIsThere, taken}
use Rattle.audit_model.proofs.Breaches.{none_more}
use Rattle.audit_placement.proofs.Turns.{turn_more}
use Rattle.audit_placement.proofs.events.lane_breach.Goals as goal

pub events-preserved : goal.events-preserved
events-preserved c =
    let names = NamesWhatIsThere (taken c.args.intake.now) in
    let items = c.as_slice-event-items.result.now in
    let place = c.events.place in
    let found = c.in_ok-found in
    let within : place < length items = omega arith in
    record {
      turn = turn_more _ _ _ _ _ _ _ (take place items) _ _ _ _ _ _ _ place c.events.invariant.turn (omega (arith, length-take place items)) (take_more items place _ within)
          c.key-key.ensures c.least-least.ensures found.ensures.shown found.ensures.notes;
      named = none_more _ _ _ _ _ _ c.least-least.ensures c.events.invariant.named found.ensures.named
          (λ all one. All-more names items place _ within all one);
    }
