use Rattle.std.proofs.Common.{false, ap}
use Rattle.std.specs.Prelude.{is_some, option_and_then}
use Rattle.audit_machine.specs.Tables.{allocation_in}
use Rattle.audit_machine.proofs.machine.Machine.new.Goals as goal

pub returns-clause-start : goal.returns-clause-start
returns-clause-start c = λ i. record {
  state = record {
    table = λ d. ap (option_and_then allocation_in) (c.new.ensures d) i;
    waiting = λ s. c.new-3.ensures s i;
    owed = λ s. c.new-4.ensures s i;
    sent = λ s. ap is_some (c.new-4.ensures s) i;
    now = 0;
  };
  placed = λ iface. c.new-5.ensures iface i;
  excluded = λ _. false;
}
