use Rattle.std.proofs.Common.{get_or}
use Rattle.std.proofs.lemmas.Result.{err_from_is_err_and}
use Rattle.std.proofs.lemmas.List.{get_or_default}
use Rattle.audit_model.specs.declared.event.Event.{Event}
use Rattle.audit_model.specs.declared.event.Event.TheVariants.{In}
use Rattle.audit_cert.specs.Spelling.{event_line}
use Rattle.audit_cert.proofs.Writings.{went_more, stopped_more}
use Rattle.audit_cert.proofs.writing.put_events.Goals as goal

pub returns-in_err-put_event : goal.returns-in_err-put_event
returns-in_err-put_event g c =
    let p = err_from_is_err_and c.from_residual.result c.from_residual.ensures.1 in
    let x : Event = get_or c.args.events.now c.loop-event.event-index (In (record { iface = 0; index = 0 }) (record { moment = 0; tie = 0 })) in
    rw (p.1, p.2) (stopped_more event_line c.args.events.now c.loop-event.event-index x c.in_err-put_event.field-0.0 _ _ _ _ _ _ c.loop-event-test.true (get_or_default c.args.events.now c.loop-event.event-index _ _ c.loop-event-test.true) c.loop-event.invariant c.in_err-put_event.ensures)

pub loop-event-preserved : goal.loop-event-preserved
loop-event-preserved g c =
    let x : Event = get_or c.args.events.now c.loop-event.event-index (In (record { iface = 0; index = 0 }) (record { moment = 0; tie = 0 })) in
    went_more event_line c.args.events.now c.loop-event.event-index x _ _ _ _ _ _ c.loop-event-test.true (get_or_default c.args.events.now c.loop-event.event-index _ _ c.loop-event-test.true) c.loop-event.invariant c.in_ok-put_event.ensures
