use Rattle.std.proofs.Common.{refl}
use Rattle.audit_watch.proofs.Watching.{push_base}
use Rattle.audit_watch.proofs.watch.bases_from.Goals as goal

pub interfaces-preserved : goal.interfaces-preserved
interfaces-preserved c = push_base c.args.interfaces.now c.interfaces.bases.items c.push.new.self.items c.interfaces.interface-index _ _ c.interfaces-test.true c.interfaces.invariant c.in_ok-push.ensures.items refl
