use Rattle.std.proofs.Common.{◌<◌, length, ap, sym, subst, ◌∙◌, arith}
use Rattle.std.specs.List.{IsDistinct}
use Rattle.std.proofs.lemmas.Bool.Decides.{nat_tests}
use Rattle.audit_model.specs.EventCount.{event_count}
use Rattle.audit_model.specs.Lanes.{same_lane, has_pair}
use Rattle.audit_cert.proofs.Drafts.{length_with_event, pairs_with_event, count_with_event, apart_with_event}
use Rattle.audit_cert.proofs.draft.CertificateDraft.add_event.Goals as goal

pub invariant_of-self-2 : goal.invariant_of-self-2
invariant_of-self-2 c =
    let lanes = c.self.inside.lanes.items in
    let event = c.in_ok-event.event in
    let e = c.in_ok-push_last.ensures.ok in
    let some : 0 < length lanes = grind (arith, nat_tests, c.is_empty.ensures) in
    let count = ap event_count e ∙ count_with_event event lanes some in
    record {
      counted = omega (arith, count, c.self.invariant.counted);
      few_events = omega (arith, c.self.invariant.few_events);
      paired = λ client listen. c.self.invariant.paired client listen ∙ sym (ap (has_pair client listen) e ∙ pairs_with_event event lanes client listen);
      distinct = subst (IsDistinct same_lane) (sym e) (apart_with_event event lanes c.self.invariant.distinct);
      few_lanes = omega (arith, ap length e, length_with_event event lanes, c.self.invariant.few_lanes);
      rising = c.self.invariant.rising;
      few_skews = c.self.invariant.few_skews;
    }
