use Rattle.std.specs.Prelude.{is_some}
use Rattle.audit_machine.proofs.machine.Machine.carried.Goals as goal

pub returns-clause-cut : goal.returns-clause-cut
returns-clause-cut c excluded n = record {
  state = record {
    table = λ q. c.in_ok-to_vec.ensures q n;
    waiting = λ s. c.in_ok-to_vec-2.ensures s n;
    owed = λ s. c.in_ok-to_vec-3.ensures s n;
    sent = λ s. is_some (c.in_ok-to_vec-3.ensures s n);
    now = c.args.self.now.last;
  };
  placed = λ iface. c.in_ok-interfaces.ensures.placed iface n;
  excluded = excluded;
}
