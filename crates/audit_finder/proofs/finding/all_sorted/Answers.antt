use Rattle.std.proofs.Common.{◌≡◌, ◌∷◌, ◌++◌, ◌∙◌, [], length, ap, arith, append_assoc, append-nil, rules, subst, sym}
use Rattle.std.proofs.lemmas.List.Elements.{All-push}
use Rattle.std.specs.Vec.Iter.{into_iter_items}
use Rattle.audit_finder.specs.Found.{AllNamed, KeysRise}
use Rattle.audit_finder.proofs.Found.{more_pairs, more_events, more_outs, more_named, nothing_left}
use Rattle.audit_finder.proofs.finding.all_sorted.Goals as goal

pub lanes-preserved : goal.lanes-preserved
lanes-preserved c =
    let at = c.lanes in
    let lane = c.in-Some.lane in
    let sorted = c.sorted.ensures in
    let pushed : c.push.new.self.items ≡ at.all.items ++ c.sorted.result ∷ [] = search rules in
    let steps : into_iter_items at.lane-iterator ≡ lane ∷ into_iter_items c.next.new.self = c.in-Some.ensures.steps.0 in
    rw (pushed) (
      more_pairs at.all.items at.yielded c.sorted.result lane sorted.pair at.invariant.0,
      more_events at.all.items at.yielded c.sorted.result lane sorted.count at.invariant.1,
      λ s. more_outs at.all.items at.yielded c.sorted.result lane s (sorted.outs s) (at.invariant.2 s),
      All-push KeysRise at.all.items c.sorted.result at.invariant.3 sorted.order,
      λ taken all. more_named taken at.all.items at.yielded c.sorted.result lane (sorted.named taken) (at.invariant.4 taken) all,
      append_assoc at.yielded (lane ∷ []) _ ∙ rw (← steps) at.invariant.5,
      let was = at.invariant.6 in
          let gone = c.in-Some.ensures.steps.1 in
          let short = ap length steps in
          omega arith,
    )

pub returns-clause-named : goal.returns-clause-named
returns-clause-named c taken all =
    let at = c.lanes in
    let none = c.in-None.ensures.steps in
    let empty : into_iter_items at.lane-iterator ≡ [] = nothing_left _ (sym at.invariant.6 ∙ none.0) in
    let gone = sym (append-nil at.yielded) ∙ rw empty at at.invariant.5 ∙ c.into_iter-lane-iterator.ensures.into_iter_gives.0 in
    at.invariant.4 taken (subst (AllNamed taken) (sym gone) all)
