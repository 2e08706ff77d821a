use Rattle.std.proofs.Common.{◌≡◌, ◌∙◌, ℕ, ap}
use Rattle.std.specs.Prelude.{is_some}
use Rattle.audit_model.specs.declared.pair.Pair.{Pair}
use Rattle.audit_model.specs.declared.sighting.SightId.{SightId}
use Rattle.audit_segments.specs.Cut.{Cut}
use Rattle.audit_cuts.specs.Carried.{allocation_in, moment_in, placed_in}
use Rattle.audit_machine.specs.Counts.{count_of}
use Rattle.audit_machine.specs.Tables.{allocation_of}
use Rattle.audit_machine.specs.Times.{time_of}
use Rattle.audit_machine.specs.declared.machine.Machine.{Machine}
use Rattle.audit_machine.proofs.machine.Machine.resume.Goals as goal

pub add_clients-requires-clause-empty : goal.add_clients-requires-clause-empty
add_clients-requires-clause-empty c q = ap (λ (cut : Cut). cut.state.table q) c.new-machine.ensures.start

pub returns-clause-cut : goal.returns-clause-cut
returns-clause-cut c excluded =
    let now = ap (λ (m : Machine). m.last) c.in_ok-add_clients.ensures.rest in
    let table : (q : Pair) → allocation_of c.add_clients.new.self.tables q ≡ allocation_in c.args.carried.now.clients.items q = λ q. c.in_ok-add_clients.ensures.tables q ∙ ap (λ l. allocation_in l q) c.deref.ensures.value in
    let waiting : (s : SightId) → time_of c.in_ok-machine.field-0 s ≡ moment_in c.args.carried.now.waiting.items s = λ s. c.in_ok-machine.ensures s ∙ ap (λ l. moment_in l s) c.deref-2.ensures.value in
    let owed : (s : SightId) → time_of c.in_ok-machine-2.field-0 s ≡ moment_in c.args.carried.now.owed.items s = λ s. c.in_ok-machine-2.ensures s ∙ ap (λ l. moment_in l s) c.deref-3.ensures.value in
    let placed : (k : ℕ) → count_of c.in_ok-machine-3.field-0 k ≡ placed_in c.args.carried.now.interfaces.items k = λ k. c.in_ok-machine-3.ensures.ok k ∙ ap (λ l. placed_in l k) c.deref-4.ensures.value in
    λ n. record {
      state = record {
        table = λ q. table q n;
        waiting = λ s. waiting s n;
        owed = λ s. owed s n;
        sent = λ s. is_some (owed s n);
        now = now n;
      };
      placed = λ k. placed k n;
      excluded = excluded;
    }
