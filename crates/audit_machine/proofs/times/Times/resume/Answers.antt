use Rattle.std.proofs.Common.{◌≡◌, ◌+◌, take, get_or, not, Some, refl, sym, ◌∙◌, ap}
use Rattle.std.specs.Prelude.{is_some}
use Rattle.std.proofs.lemmas.Bool.{cond-true, cond-false}
use Rattle.std.proofs.lemmas.List.{take_more}
use Rattle.audit_model.specs.Sames.{same_sight}
use Rattle.audit_model.proofs.Sames.{sight_true, sight_same}
use Rattle.audit_cuts.specs.declared.carried.Came.{Came}
use Rattle.audit_cuts.specs.Carried.{moment_in}
use Rattle.audit_machine.specs.declared.times.Times.{Times}
use Rattle.audit_machine.specs.Times.{time_of}
use Rattle.audit_machine.proofs.Carried.{added, left_out, none_there, sight_either_way}
use Rattle.audit_machine.proofs.times.Times.resume.Goals.{then-is_none+in_ok-put, else-is_none}
use Rattle.audit_machine.proofs.times.Times.resume.Goals as goal

pub loop-came-preserved : goal.loop-came-preserved
loop-came-preserved c s =
    let none : Came = record { sight = record { iface = 0; index = 0 }; moment = 0 } in
    let all = c.args.all.now in
    let came : Came = get_or all c.loop-came.came-index none in
    let old = time_of c.loop-came.times in
    let is_there : is_some (old came.sight) ≡ not c.is_none.result = ap is_some (sym c.get.ensures) ∙ c.is_none.ensures in
    elim c.if-is_none.branch [
      | then-is_none+in_ok-put w ↦ ap (λ (t : Times). time_of t s) w.times-is
          ∙ added same_sight (λ (k : Came). k.sight) (λ (k : Came). k.moment) sight_true (take c.loop-came.came-index all) came old c.loop-came.invariant (time_of w.put.new.self)
          (sight_same came.sight came.sight refl) (none_there (old came.sight) (is_there ∙ ap not w.if-is_none.true))
          (w.in_ok-put.ensures came.sight ∙ cond-true (same_sight came.sight came.sight) (Some came.moment) (old came.sight) (sight_same came.sight came.sight refl))
          (λ k apart. w.in_ok-put.ensures k ∙ cond-false (same_sight k came.sight) (Some came.moment) (old k) (sight_either_way k came.sight ∙ apart)) s
          ∙ ap (λ l. moment_in l s) (sym (take_more all c.loop-came.came-index none c.loop-came-test.true))
      | else-is_none w ↦ ap (λ (t : Times). time_of t s) w.times-is
          ∙ left_out same_sight (λ (k : Came). k.sight) (λ (k : Came). k.moment) sight_true (take c.loop-came.came-index all) came old c.loop-came.invariant (is_there ∙ ap not w.if-is_none.false) s
          ∙ ap (λ l. moment_in l s) (sym (take_more all c.loop-came.came-index none c.loop-came-test.true))
    ]
