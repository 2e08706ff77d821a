use Rattle.std.proofs.Common.{◌≡◌, ◌∷◌, ◌++◌, [], take, not, Some, sym, ◌∙◌, ap}
use Rattle.std.specs.Prelude.{is_some}
use Rattle.std.specs.Cmp.{tied_itself}
use Rattle.std.specs.Ordering.{is_eq}
use Rattle.std.proofs.lemmas.Bool.{cond-true, cond-false}
use Rattle.std.proofs.lemmas.List.{take_more, take_all}
use Rattle.audit_expiry.specs.Leases.{is_same, value_at}
use Rattle.audit_machine.proofs.Carried.{added, left_out, none_there, same_key, first_lease, value_is_first, one_key, apart_either_way}
use Rattle.audit_machine.proofs.clients.leases_of.Goals.{then-is_none+in_ok-put, else-is_none}
use Rattle.audit_machine.proofs.clients.leases_of.Goals as goal

pub loop-key-preserved : goal.loop-key-preserved
loop-key-preserved g c k =
    let order = g.K.Ord.cmp in
    let all = c.args.entries.now in
    let entry = c.loop-key-item.result in
    let old = value_at order c.loop-key.leases in
    let itself = ap is_eq (tied_itself g.met.K.Ord.total entry.0) in
    let is_there : is_some (old entry.0) ≡ not c.is_none.result = ap is_some (sym c.get.ensures) ∙ c.is_none.ensures in
    let more = ap (λ l. first_lease order (take c.loop-key.key-index all ++ l ∷ []) k) c.loop-key-item.is ∙ ap (λ l. first_lease order l k) (sym (take_more all c.loop-key.key-index entry c.loop-key-test.true)) in
    elim c.if-is_none.branch [
      | then-is_none+in_ok-put w ↦ ap (λ l. value_at order l k) w.leases-is
          ∙ added (same_key order) (λ e. e.0) (λ e. e.1) (one_key order g.met.K.ExactKey.exact) (take c.loop-key.key-index all) entry old c.loop-key.invariant (value_at order w.put.new.self)
          itself (none_there (old entry.0) (is_there ∙ ap not w.if-is_none.true))
          (w.in_ok-put.ensures.ok entry.0 ∙ cond-true (is_same order entry.0 entry.0) (Some entry.1) (old entry.0) itself)
          (λ q apart. w.in_ok-put.ensures.ok q ∙ cond-false (is_same order entry.0 q) (Some entry.1) (old q) (apart_either_way order g.met.K.ExactKey.exact entry.0 q apart)) k
          ∙ more
      | else-is_none w ↦ ap (λ l. value_at order l k) w.leases-is
          ∙ left_out (same_key order) (λ e. e.0) (λ e. e.1) (one_key order g.met.K.ExactKey.exact) (take c.loop-key.key-index all) entry old c.loop-key.invariant (is_there ∙ ap not w.if-is_none.false) k
          ∙ more
    ]

pub returns : goal.returns
returns g c k = c.loop-key.invariant k ∙ ap (λ l. first_lease g.K.Ord.cmp l k) (take_all _ _ c.loop-key-test.false) ∙ sym (value_is_first g.K.Ord.cmp c.args.entries.now k)
