use Rattle.std.proofs.Common.{◌≡◌, length, ap, sym, ◌∙◌, arith}
use Rattle.audit_model.specs.EventCount.{event_count}
use Rattle.audit_model.specs.Lanes.{has_pair}
use Rattle.audit_order.proofs.KeptSteps.{nothing_kept, none_counted}
use Rattle.audit_placement.specs.Keys.{key_at}
use Rattle.audit_order.proofs.portions.Placing.new.Goals as goal

pub returns-clause-keeps : goal.returns-clause-keeps
returns-clause-keeps c = λ taken.
    let none = c.no_certificate.result in
    let lanes = c.no_certificate.ensures.lanes in
    let drops = c.no_certificate.ensures.drops in
    let events : event_count none.lanes ≡ 0 = ap event_count lanes in
    let dropped : length none.drops ≡ 0 = ap length drops in
    record {
      places = nothing_kept taken none (key_at c.new.result) lanes drops c.new.ensures;
      count = none_counted none lanes drops;
      events = omega (arith, events, dropped);
      pairs = λ client listen. c.new-2.ensures client listen ∙ sym (ap (has_pair client listen) lanes);
    }
