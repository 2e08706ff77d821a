use Rattle.std.proofs.Common.{refl, rules}
use Rattle.audit_cuts.specs.declared.carried.Carried.{Carried}
use Rattle.audit_cuts.proofs.OneCut.{same_cut}
use Rattle.audit_cuts.proofs.carried.Carried.rebase.Goals as goal

pub returns-clause-cut : goal.returns-clause-cut
returns-clause-cut c =
    let new : Carried = record { moment = c.args.self.now.moment; clients = c.args.self.now.clients; waiting = c.in_ok-waiting.waiting; owed = c.in_ok-owed.owed; interfaces = c.in_ok-interfaces.interfaces } in
    same_cut c.args.self.now new refl refl (search rules) (search rules) (search rules)
