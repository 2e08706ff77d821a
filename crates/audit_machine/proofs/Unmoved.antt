-- If a client's table is taken out and put back with the same content, the machine has the same cut.
use Rattle.std.proofs.Common.{◌≡◌, ◌≢◌, true, false, Some, None, refl, sym, ◌∙◌, ap, subst}
use Rattle.std.specs.Prelude.{is_some, option_and_then}
use Rattle.std.proofs.lemmas.Bool.{true≢false, cond-true, cond-false}
use Rattle.std.proofs.lemmas.Option.{same_Some}
use Rattle.audit_model.specs.declared.pair.Pair.{Pair}
use Rattle.audit_model.specs.declared.policy.Policy.{Policy}
use Rattle.audit_model.specs.Sames.{same_client}
use Rattle.audit_model.proofs.Sames.{client_true, client_same, client_apart}
use Rattle.audit_rules.specs.declared.table.LaneTable.{LaneTable}
use Rattle.audit_rules.specs.Effect.{standing}
use Rattle.audit_server.specs.State.{put}
use Rattle.audit_machine.specs.declared.holders.Holders.{Holders}
use Rattle.audit_machine.specs.declared.machine.Machine.{Machine}
use Rattle.audit_machine.specs.declared.tables.Tables.{Tables}
use Rattle.audit_machine.specs.Counts.{count_of}
use Rattle.audit_machine.specs.Machine.{IsConsistent, AreHeld, IsUnmoved}
use Rattle.audit_machine.specs.Tables.{table_of, allocation_in, allocation_of, AreOwn}
use Rattle.audit_machine.specs.Times.{time_of}

module _ (old new : Machine) (mid : Tables) (table : LaneTable) (pair : Pair) (removed : (c : Pair) → table_of mid c ≡ put same_client (table_of old.tables) pair None c)
    (put_in : (c : Pair) → table_of new.tables c ≡ put same_client (table_of mid) pair (Some table) c) (rest : new ≡ record old { tables = new.tables })
    (client : (standing table).client ≡ pair.client) (listen : (standing table).listen ≡ pair.listen) (allocation : (standing table).allocation ≡ allocation_of old.tables pair) (consistent : IsConsistent old) where
  own_then : table_of new.tables pair ≡ Some table
  own_then = put_in pair ∙ cond-true (same_client pair pair) (Some table) (table_of mid pair) (client_same pair pair refl)

  others_then : (c : Pair) → c ≢ pair → table_of new.tables c ≡ table_of old.tables c
  others_then c ne =
      put_in c ∙ cond-false (same_client c pair) (Some table) (table_of mid c) (client_apart c pair ne) ∙ removed c ∙ cond-false (same_client c pair) None (table_of old.tables c) (client_apart c pair ne)

  by_client : (P : Pair → Type 0) → P pair → ((c : Pair) → c ≢ pair → P c) → (c : Pair) → P c
  by_client P own other c = elim (same_client c pair) as (λ b. same_client c pair ≡ b → P c) [
    | true ↦ λ q. subst P (sym (client_true c pair q)) own
    | false ↦ λ q. other c (λ e. true≢false (sym (client_same c pair e) ∙ q))
  ] refl

  same_tables : (c : Pair) → allocation_of new.tables c ≡ allocation_of old.tables c
  same_tables = by_client (λ c. allocation_of new.tables c ≡ allocation_of old.tables c)
      (ap (option_and_then allocation_in) own_then ∙ allocation)
      (λ c ne. ap (option_and_then allocation_in) (others_then c ne))

  own_consistent : AreOwn new.tables
  own_consistent = by_client (λ c. (one : LaneTable) → table_of new.tables c ≡ Some one → ((standing one).client ≡ c.client) × ((standing one).listen ≡ c.listen))
      (λ one is. let e : table ≡ one = same_Some table one (sym own_then ∙ is) in (ap (λ (x : LaneTable). (standing x).client) (sym e) ∙ client, ap (λ (x : LaneTable). (standing x).listen) (sym e) ∙ listen))
      (λ c ne one is. consistent.own c one (sym (others_then c ne) ∙ is))

  held_as_before : AreHeld new.tables old.holders old.policy.grace old.last
  held_as_before c a is u = consistent.held c a (sym (same_tables c) ∙ is) u

  pub is_unmoved : IsUnmoved old new
  is_unmoved = record {
    consistent = record {
      own = own_consistent;
      held = subst (λ (h : Holders). AreHeld new.tables h new.policy.grace new.last) (sym (ap (λ (m : Machine). m.holders) rest))
          (subst (λ (p : Policy). AreHeld new.tables old.holders p.grace new.last) (sym (ap (λ (m : Machine). m.policy) rest))
          (subst (AreHeld new.tables old.holders old.policy.grace) (sym (ap (λ (m : Machine). m.last) rest)) held_as_before));
    };
    policy = ap (λ (m : Machine). m.policy) rest;
    cut = λ excluded i. record {
      state = record {
        table = λ c. same_tables c i;
        waiting = λ s. ap (λ (m : Machine). time_of m.waiting s) rest i;
        owed = λ s. ap (λ (m : Machine). time_of m.owed s) rest i;
        sent = λ s. ap (λ (m : Machine). is_some (time_of m.owed s)) rest i;
        now = ap (λ (m : Machine). m.last) rest i;
      };
      placed = λ iface. ap (λ (m : Machine). count_of m.placed iface) rest i;
      excluded = excluded;
    };
  }
