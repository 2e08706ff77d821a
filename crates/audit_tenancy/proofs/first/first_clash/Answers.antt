use Rattle.std.proofs.Common.{refl}
use Rattle.audit_tenancy.proofs.Passing.{before_at, keeps_next, shown_next, kept_next}
use Rattle.audit_tenancy.proofs.first.first_clash.Goals as goal
use Rattle.audit_tenancy.proofs.first.first_clash.Goals.{then-clashes, else-clashes}

pub loop-tenancy-preserved : goal.loop-tenancy-preserved
loop-tenancy-preserved c =
    let sorted = c.args.sorted.now in
    let i = c.loop-tenancy.tenancy-index in
    let within = c.loop-tenancy-test.true in
    let so_far = c.loop-tenancy.invariant in (
      keeps_next sorted i _ within _ _ (c.with-kept.ensures _ so_far.0 (before_at sorted i _ within c.requires)),
      elim c.if-clashes.branch [
        | then-clashes w ↦
            rw (w.least-is, w.least-least.ensures, w.breach.ensures)
            (shown_next sorted i _ within _ c.requires (w.if-clashes.ensures.some _ so_far.0 (before_at sorted i _ within c.requires) refl) so_far.1)
        | else-clashes w ↦
            rw w.least-is (kept_next sorted i _ within _ c.requires (w.if-clashes.ensures.none _ so_far.0 (before_at sorted i _ within c.requires) refl) so_far.1)
      ],
    )
