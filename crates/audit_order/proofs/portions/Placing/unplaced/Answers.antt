use Rattle.audit_placement.specs.Entries.{entries}
use Rattle.audit_order.proofs.KeptSteps.{kept_knows}
use Rattle.audit_order.proofs.portions.Placing.unplaced.Goals as goal

pub returns : goal.returns
returns c = λ before kept.
    c.unplaced_breach.ensures (entries c.args.self.now.certificate) (kept_knows before c.args.self.now.certificate c.args.self.now.places kept.places)
