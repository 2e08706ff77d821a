use Rattle.std.proofs.Common.{sym, subst}
use Rattle.prep_cut.specs.declared.lease.Act.{Act}
use Rattle.prep_cut.specs.declared.leases.Leases.{Leases}
use Rattle.prep_cut.specs.Held.{HasGrant}
use Rattle.prep_cut.proofs.Adding.{kept_grant}
use Rattle.prep_cut.proofs.leases.Leases.add_grant.Goals as goal

pub returns-in_ok-add-clause-shown : goal.returns-in_ok-add-clause-shown
returns-in_ok-add-clause-shown c =
    let new : Leases = record { clients = c.args.self.now.clients; addresses = c.add.new.self } in
    subst (λ (act : Act). HasGrant new c.args.event act) (sym c.in-Grants.is) c.in_ok-add.ensures.added

pub returns-in_ok-add-clause-kept : goal.returns-in_ok-add-clause-kept
returns-in_ok-add-clause-kept c =
    kept_grant c.args.self.now (record { clients = c.args.self.now.clients; addresses = c.add.new.self }) c.in_ok-add.ensures.kept
