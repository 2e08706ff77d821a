use Rattle.std.proofs.Common.{◌≡◌, ◌+◌, ◌++◌, ◌∷◌, [], take, sym, ap, ◌∙◌}
use Rattle.std.proofs.lemmas.List.{take_more}
use Rattle.std.specs.Cmp.{tied_itself}
use Rattle.audit_expiry.proofs.Many.{grew_adds, has_more, keeps_more}
use Rattle.audit_expiry.proofs.leases.Leases.add_missing.Goals as goal

pub loop-key-preserved : goal.loop-key-preserved
loop-key-preserved g c =
    let keys = c.args.keys.now in
    let key = c.key-item.result in
    let adds = c.in_default.ensures.ok in
    let so_far : take (c.loop-key.key-index + 1) keys ≡ take c.loop-key.key-index keys ++ key ∷ [] =
    take_more keys c.loop-key.key-index key c.loop-key-test.true ∙ ap (λ (k : g.row.K.Denot). take c.loop-key.key-index keys ++ k ∷ []) (sym c.key-item.is) in
    rw so_far (
      grew_adds g.K.Ord.cmp _ _ _ _ _ _ _ adds c.loop-key.invariant.0,
      has_more g.K.Ord.cmp _ _ _ _ _ _ _ (tied_itself g.met.K.Ord.total _) adds c.loop-key.invariant.1,
      keeps_more g.K.Ord.cmp _ _ _ _ _ _ _ _ adds c.loop-key.invariant.2,
    )
