use Rattle.std.proofs.Common.{◌≡◌, ◌+◌, ◌∷◌, ◌++◌, [], List, take, drop, drop-cons, suc, sym, ◌∙◌, ap, subst}
use Rattle.std.proofs.lemmas.List.{take_more, take-append-drop}
use Rattle.std.proofs.lemmas.Result.{err_from_is_err_and}
use Rattle.audit_cuts.specs.declared.carried.Client.{Client}
use Rattle.audit_cuts.specs.Carried.{allocation_in}
use Rattle.audit_machine.specs.declared.machine.Machine.{Machine}
use Rattle.audit_machine.specs.Carrying.{CanNotAdd, CanNotAddAll}
use Rattle.audit_machine.specs.Tables.{allocation_of}
use Rattle.audit_machine.proofs.Carried.{client_more, add_all}
use Rattle.audit_machine.proofs.machine.Machine.add_clients.Goals as goal

pub loop-client-preserved : goal.loop-client-preserved
loop-client-preserved c =
    let clients = c.args.clients.now in
    let client : Client = c.client-item.result in
    let ensured = c.in_ok-add_client.ensures in
    record {
      consistent = ensured.consistent;
      tables = λ q. ensured.tables q ∙ client_more (allocation_of c.loop-client.self.tables q) (take c.loop-client.client-index clients) client q (c.loop-client.invariant.tables q)
          ∙ ap (λ k. allocation_in (take c.loop-client.client-index clients ++ k ∷ []) q) c.client-item.is ∙ ap (λ l. allocation_in l q) (sym (take_more clients c.loop-client.client-index client c.loop-client-test.true));
      rest = ensured.rest ∙ ap (λ (m : Machine). record m { tables = c.add_client.new.self.tables; holders = c.add_client.new.self.holders }) c.loop-client.invariant.rest;
    }

pub returns-in_err-add_client-clause-why : goal.returns-in_err-add_client-clause-why
returns-in_err-add_client-clause-why c =
    let clients = c.args.clients.now in
    let index = c.loop-client.client-index in
    let client : Client = c.client-item.result in
    let error = c.in_err-add_client.field-0.0 in
    let next : client ∷ drop (suc index) clients ≡ drop index clients = ap (λ k. k ∷ drop (suc index) clients) c.client-item.is ∙ sym (drop-cons clients index client c.loop-client-test.true) in
    let whole : take index clients ++ client ∷ drop (suc index) clients ≡ clients = ap (λ l. take index clients ++ l) next ∙ take-append-drop index clients in
    let one = subst (λ (m : Machine). CanNotAdd m.policy.grace m.last (allocation_of c.loop-client.self.tables) client error) c.loop-client.invariant.rest c.in_err-add_client.ensures.why in
    let why = subst (λ (l : List Client). CanNotAddAll c.args.self.now.policy.grace c.args.self.now.last l error) whole
    (add_all c.args.self.now.policy.grace c.args.self.now.last (allocation_of c.loop-client.self.tables) (take index clients) (drop (suc index) clients) client c.loop-client.invariant.tables error one) in
    let result = err_from_is_err_and c.from_residual.result c.from_residual.ensures.1 in
    rw (result.1, result.2) why
