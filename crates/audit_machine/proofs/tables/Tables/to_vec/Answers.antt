use Rattle.std.proofs.Common.{◌≡◌, Some, sym, ◌∙◌, ap, subst}
use Rattle.std.specs.BTreeMap.{get}
use Rattle.std.proofs.lemmas.List.Elements.{recursion_from_All}
use Rattle.audit_model.specs.declared.address.Addr.{Addr}
use Rattle.audit_model.specs.LanePairs.{pair_cmp}
use Rattle.audit_rules.specs.declared.table.LaneTable.{LaneTable}
use Rattle.audit_cuts.specs.Carried as carried
use Rattle.audit_machine.proofs.Carried.{or_else, allocation_among, AreFound, client_added, table_left_out}
use Rattle.audit_machine.proofs.tables.Tables.to_vec.Goals as goal

pub loop-key-init : goal.loop-key-init
loop-key-init c =
    let all = c.into_iter-key-iterator.ensures.into_iter_gives ∙ c.iter-key-items.ensures.rest in
    record {
      tables = λ q. sym (ap (λ l. or_else (carried.allocation_in l q) (allocation_among c.into_iter-key-iterator.result q)) c.new-all.ensures.items ∙ ap (λ l. allocation_among l q) all);
      found = subst (λ l. AreFound c.args.self.now l) (sym all) (recursion_from_All (λ (e : (Addr × Addr) × LaneTable). get pair_cmp c.args.self.now.tables e.0 ≡ Some e.1) _ c.iter-key-items.ensures.found);
    }

pub loop-key-preserved-in-Continue-branch-3 : goal.loop-key-preserved-in-Continue-branch-3
loop-key-preserved-in-Continue-branch-3 c =
    let step = c.in-Some.ensures.steps in
    record {
      tables = λ q. c.loop-key.invariant.tables q ∙ ap (λ l. or_else (carried.allocation_in c.loop-key.all.items q) (allocation_among l q)) step
          ∙ client_added c.loop-key.all.items c.in-Some-2.client c.in-Some.key.now c.in-Some.table.now c.next.new.self (rw c.in-Some-2.is at c.in_ok-client.ensures.pair) (sym (rw c.in-Some-2.is at c.in_ok-client.ensures.allocation)) q
          ∙ ap (λ l. or_else (carried.allocation_in l q) (allocation_among c.next.new.self q)) (sym c.in_ok-push.ensures.items);
      found = (rw step at c.loop-key.invariant.found).1;
    }

pub loop-key-preserved : goal.loop-key-preserved
loop-key-preserved c =
    let step = c.in-Some.ensures.steps in
    let found = rw step at c.loop-key.invariant.found in
    record {
      tables = λ q. c.loop-key.invariant.tables q ∙ ap (λ l. or_else (carried.allocation_in c.loop-key.all.items q) (allocation_among l q)) step
          ∙ table_left_out c.args.self.now (carried.allocation_in c.loop-key.all.items q) c.in-Some.key.now c.in-Some.table.now c.next.new.self found (sym (rw c.in_default.is at c.in_ok-client.ensures.allocation)) q;
      found = found.1;
    }
