-- Forgetting a client whose allocation is past the grace is a segment without a step.
use Rattle.std.proofs.Common.{◌≡◌, ◌≢◌, inl, ℕ, Option, Some, None, [], refl, sym, ◌∙◌, ap, subst, arith}
use Rattle.std.specs.Prelude.{option_and_then}
use Rattle.std.proofs.lemmas.Option.{none-some}
use Rattle.std.proofs.lemmas.Bool.{cond-true, cond-false}
use Rattle.audit_model.specs.declared.pair.Pair.{Pair}
use Rattle.audit_model.specs.declared.policy.Policy.{Policy}
use Rattle.audit_model.specs.Sames.{same_client}
use Rattle.audit_model.proofs.Sames.{client_same, client_apart}
use Rattle.audit_rules.specs.declared.table.LaneTable.{LaneTable}
use Rattle.audit_rules.specs.Allocation.{Allocation}
use Rattle.audit_rules.specs.Effect.{standing}
use Rattle.audit_rules.specs.Keys.{KeyFor}
use Rattle.audit_server.specs.State.{State, put}
use Rattle.audit_segments.specs.Cut.{Cut}
use Rattle.audit_segments.specs.PastGrace.{HasNoAllocation, AreAlikeEntries}
use Rattle.audit_segments.specs.Segment.{View, IsSegment}
use Rattle.audit_segments.proofs.Claiming.{excludes_more}
use Rattle.audit_segments.proofs.Entries.{entry_refl}
use Rattle.audit_machine.specs.declared.tables.Tables.{Tables}
use Rattle.audit_machine.specs.Tables.{table_of, allocation_in, allocation_of, AreOwn}
use Rattle.audit_machine.proofs.Pairs.{by_client}

-- the state with another table
abbrev pub with_table : State → (Pair → Option Allocation) → State
with_table st table = record { table = table; waiting = st.waiting; owed = st.owed; sent = st.sent; now = st.now }

module _ (old new : Tables) (pair : Pair) (removed : (c : Pair) → table_of new c ≡ put same_client (table_of old) pair None c) where
  gone_then : table_of new pair ≡ None
  gone_then = removed pair ∙ cond-true (same_client pair pair) None (table_of old pair) (client_same pair pair refl)

  others_then : (c : Pair) → c ≢ pair → table_of new c ≡ table_of old c
  others_then c ne = removed c ∙ cond-false (same_client c pair) None (table_of old c) (client_apart c pair ne)

  pub own_left : AreOwn old → AreOwn new
  own_left own = by_client pair (λ c. (t : LaneTable) → table_of new c ≡ Some t → ((standing t).client ≡ c.client) × ((standing t).listen ≡ c.listen)) (λ t is. absurd (none-some t (sym gone_then ∙ is))) (λ c ne t is. own c t (sym (others_then c ne) ∙ is))

  pub alike_left : (grace now : ℕ) → HasNoAllocation grace now (allocation_of old pair) → (c : Pair) → AreAlikeEntries grace now (allocation_of old c) (allocation_of new c)
  alike_left grace now none = by_client pair (λ c. AreAlikeEntries grace now (allocation_of old c) (allocation_of new c))
      (inl (none, subst (HasNoAllocation grace now) (sym (ap (option_and_then allocation_in) gone_then)) tt))
      (λ c ne. subst (λ (o : Option Allocation). AreAlikeEntries grace now (allocation_of old c) o) (sym (ap (option_and_then allocation_in) (others_then c ne))) (entry_refl grace now (allocation_of old c)))

  pub was_there : (c : Pair) (a : Allocation) → allocation_of new c ≡ Some a → allocation_of old c ≡ Some a
  was_there = by_client pair (λ c. (a : Allocation) → allocation_of new c ≡ Some a → allocation_of old c ≡ Some a)
      (λ a is. absurd (none-some a (sym (ap (option_and_then allocation_in) gone_then) ∙ is)))
      (λ c ne a is. sym (ap (option_and_then allocation_in) (others_then c ne)) ∙ is)

pub forgets_client : (policy : Policy) (key_for : KeyFor) (view : View) (cut : Cut) (table : Pair → Option Allocation) → ((c : Pair) → AreAlikeEntries policy.grace cut.state.now (cut.state.table c) (table c)) →
    IsSegment policy key_for view cut [] (record { state = with_table cut.state table; placed = cut.placed; excluded = cut.excluded })
forgets_client policy key_for view cut table alike = excludes_more policy key_for view cut cut.excluded (with_table cut.state table)
    (record { placed = λ iface. omega arith; excluded = λ q e. e; settled = λ q e. refl })
    (record { now = refl; table = alike; waiting = λ q h. inl refl; owed = λ q h. refl; sent = λ q h p. refl })
