use Rattle.std.proofs.Common.{◌≡◌, ◌∙◌, ap}
use Rattle.audit_rules.specs.Effect.{Standing, standing}
use Rattle.audit_machine.proofs.Unmoved.{is_unmoved}
use Rattle.audit_machine.proofs.machine.Machine.table_after.Goals as goal

pub returns-in-Ok-clause-before : goal.returns-in-Ok-clause-before
returns-in-Ok-clause-before c = record {
  before = c.take_out-table.result;
  client = c.take_out-table.ensures.client;
  listen = c.take_out-table.ensures.listen;
  allocation = c.take_out-table.ensures.allocation;
  may = c.in-Ok.ensures.may;
  after = c.in-Ok.ensures.after;
  client' = c.in-Ok.ensures.client ∙ c.take_out-table.ensures.client;
  listen' = c.in-Ok.ensures.listen ∙ c.take_out-table.ensures.listen;
}

pub returns-in-Err-clause-refused : goal.returns-in-Err-clause-refused
returns-in-Err-clause-refused c harmless =
    let same : standing c.judge.new.table ≡ standing c.take_out-table.result = c.in-Err.ensures.err in
    is_unmoved c.args.self.now c.put_back.new.self c.take_out-table.new.self c.judge.new.table c.args.pair c.take_out-table.ensures.rest (c.put_back.ensures.back harmless) c.put_back.ensures.rest
    (ap (λ (x : Standing). x.client) same ∙ c.take_out-table.ensures.client) (ap (λ (x : Standing). x.listen) same ∙ c.take_out-table.ensures.listen) (ap (λ (x : Standing). x.allocation) same ∙ c.take_out-table.ensures.allocation) c.requires.consistent
