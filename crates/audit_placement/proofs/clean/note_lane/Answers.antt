use Rattle.std.proofs.Common.{◌++◌, ◌∙◌, List, Option, Some, None, arith, subst, take}
use Rattle.std.proofs.lemmas.List.{take_all, take_more}
use Rattle.audit_model.specs.declared.event.Event.{Event}
use Rattle.audit_model.specs.declared.pair.Pair.{Pair}
use Rattle.audit_sightings.specs.Intake.{taken}
use Rattle.audit_placement.specs.Clean.{IsClean}
use Rattle.audit_placement.specs.Entries.{entries_from}
use Rattle.audit_placement.specs.Keys.{key_at}
use Rattle.audit_placement.proofs.CleanTurns.{clean_turn}
use Rattle.audit_placement.proofs.clean.note_lane.Goals as goal

pub events-preserved : goal.events-preserved
events-preserved c =
    let items = c.as_slice-event-items.result.now in
    let i = c.events.event-index in
    clean_turn _ _ (key_at c.events.keys) _ _ (take i items) _ c.events.last _ _ c.events.invariant (take_more items i _ (omega arith))
    c.key.ensures c.if-not-note_event.ensures

pub returns : goal.returns
returns c = λ number earlier clean.
    let items = c.as_slice-event-items.result.now in
    let pair : Option Pair = Some (record { client = c.args.lane.now.client; listen = c.args.lane.now.listen }) in
    subst (λ (es : List Event). IsClean (taken c.args.intake.now) (key_at c.events.keys) (earlier ++ entries_from pair number 0 None es))
    (take_all c.events.event-index items (omega arith) ∙ c.as_slice-event-items.ensures) (c.events.invariant.clean number earlier clean)
