use Rattle.std.proofs.Common.{◌++◌, ◌∙◌, List, Option, Some, None, arith, subst, sym}
use Rattle.std.proofs.lemmas.List.{take_all}
use Rattle.audit_model.specs.declared.event.Event.{Event}
use Rattle.audit_model.specs.declared.pair.Pair.{Pair}
use Rattle.audit_placement.specs.Clean.{IsClean}
use Rattle.audit_placement.specs.Entries.{entries_from}
use Rattle.audit_placement.specs.Keys.{key_at}
use Rattle.audit_placement.specs.Pieces.{BreakNoRule}
use Rattle.audit_placement.proofs.PieceSteps.{placed_turn}
use Rattle.audit_placement.proofs.clean.place_lane.Goals as goal

pub events-preserved : goal.events-preserved
events-preserved c = λ taken pair held.
    placed_turn taken pair _ _ _ c.as_slice-event-items.result.now c.events.event-index _ (omega arith) held (c.events.invariant taken pair held) c.if-not-place_event.ensures

pub returns : goal.returns
returns c = λ taken number earlier held clean.
    let items = c.as_slice-event-items.result.now in
    let pair : Option Pair = Some (record { client = c.args.lane.now.client; listen = c.args.lane.now.listen }) in
    let turn = c.events.invariant taken pair (subst (BreakNoRule taken pair None) (sym c.as_slice-event-items.ensures) held) in
    subst (λ (es : List Event). IsClean taken (key_at c.events.keys) (earlier ++ entries_from pair number 0 None es))
    (take_all c.events.event-index items (omega arith) ∙ c.as_slice-event-items.ensures) (turn.clean number earlier clean)
