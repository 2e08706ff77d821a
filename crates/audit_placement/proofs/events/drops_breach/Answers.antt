use Rattle.std.proofs.Common.{take, map, arith, length-take, refl, ap, ◌∙◌, ◌∷◌, []}
use Rattle.std.proofs.lemmas.List.{take_more, length-map, map-append}
use Rattle.audit_placement.specs.Entries.{arrival_of}
use Rattle.audit_placement.proofs.Turns.{turn_more}
use Rattle.audit_placement.proofs.events.drops_breach.Goals as goal

pub drops-preserved : goal.drops-preserved
drops-preserved c =
    let drops = c.as_slice-drops.result.now in
    let place = c.drops.place in
    let found = c.in_ok-of_drop in
    turn_more _ _ _ _ _ _ _ (map arrival_of (take place drops)) _ _ _ _ _ _ _ place c.drops.invariant (omega (arith, length-take place drops, length-map (take place drops) arrival_of))
    (ap (map arrival_of) (take_more drops place _ (omega arith)) ∙ map-append arrival_of (take place drops) (_ ∷ []))
    refl c.least-least.ensures found.ensures.shown found.ensures.notes
