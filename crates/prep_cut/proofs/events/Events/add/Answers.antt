-- Under the key it is behind those of before, and other keys keep theirs.
use Rattle.std.proofs.Common.{◌≡◌, ◌∷◌, ◌++◌, [], List, ap, ◌∙◌}
use Rattle.std.specs.Global.{Vec}
use Rattle.std.specs.BTreeMap.{get}
use Rattle.audit_model.specs.LanePairs.{pair_cmp}
use Rattle.prep_cut.specs.declared.events.Events.{Events}
use Rattle.prep_cut.specs.declared.lease.Event.{Event}
use Rattle.prep_cut.specs.Noted.{items_in, events_at}
use Rattle.prep_cut.proofs.Adding.{IsAdded, added, has_added, kept_added, only_added}
use Rattle.prep_cut.proofs.events.Events.add.Goals as goal
use Rattle.prep_cut.proofs.events.Events.add.Goals.{in-Some, in-None}

pub returns : goal.returns
returns c =
    let before : c.match-remove.events.items ≡ items_in (get pair_cmp c.args.self.now.by_ends (c.args.one, c.args.other)) =
    elim c.match-remove.branch [
      | in-Some w ↦ ap (λ (v : Vec Event). v.items) w.events-is ∙ ap items_in w.in-Some.ensures.value
      | in-None w ↦ ap (λ (v : Vec Event). v.items) w.events-is ∙ w.new-events.ensures.items ∙ ap items_in w.in-None.ensures.value
    ] in
    let more = c.in_ok-push.ensures.items in
    let new : Events = record { by_ends = c.insert.new.self; alloc = c.args.self.now.alloc } in
    let given : IsAdded c.args.self.now new c.args.one c.args.other c.args.event =
    λ first second. added c.args.self.now.by_ends c.remove.new.self c.insert.new.self (c.args.one, c.args.other) c.push.new.self
    (events_at c.args.self.now c.args.one c.args.other ++ c.args.event ∷ []) c.remove.ensures.updates c.in_ok-insert.ensures.updates
    (more ∙ ap (λ (items : List Event). items ++ c.args.event ∷ []) before) (first, second) in
    record {
      added = has_added c.args.self.now new c.args.one c.args.other c.args.event given;
      kept = kept_added c.args.self.now new c.args.one c.args.other c.args.event given;
      only = only_added c.args.self.now new c.args.one c.args.other c.args.event given;
    }
