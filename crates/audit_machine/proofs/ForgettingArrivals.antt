-- Forgetting an arrival that is older than the hold is a segment without a step.
use Rattle.std.proofs.Common.{◌≡◌, ◌<◌, inl, inr, ℕ, true, false, cond, Option, Some, None, [], refl, sym, subst, arith}
use Rattle.std.specs.Prelude.{IsSomeAnd}
use Rattle.audit_model.specs.declared.policy.Policy.{Policy}
use Rattle.audit_model.specs.declared.sighting.SightId.{SightId}
use Rattle.audit_model.specs.Sames.{same_sight}
use Rattle.audit_model.specs.Window.{later}
use Rattle.audit_model.proofs.Sames.{sight_true}
use Rattle.audit_rules.specs.Keys.{KeyFor}
use Rattle.audit_server.specs.State.{State, put}
use Rattle.audit_segments.specs.Alike.{AreAlikeTimes, IsTooOld}
use Rattle.audit_segments.specs.Cut.{Cut}
use Rattle.audit_segments.specs.Segment.{View, IsSegment}
use Rattle.audit_segments.proofs.Claiming.{excludes_more}
use Rattle.audit_segments.proofs.Entries.{entry_refl}

too_old_of : (hold now : ℕ) (o : Option ℕ) → IsSomeAnd o (λ came. later came hold < now) → IsTooOld hold now o
too_old_of hold now None h = tt
too_old_of hold now (Some came) h = h

-- the state with other waiting arrivals
abbrev pub with_waiting : State → (SightId → Option ℕ) → State
with_waiting st waiting = record { table = st.table; waiting = waiting; owed = st.owed; sent = st.sent; now = st.now }

pub forgets_arrival : (policy : Policy) (key_for : KeyFor) (view : View) (cut : Cut) (s : SightId) (waiting : SightId → Option ℕ) → ((q : SightId) → waiting q ≡ put same_sight cut.state.waiting s None q) →
    IsSomeAnd (cut.state.waiting s) (λ came. later came policy.hold < cut.state.now) →
    IsSegment policy key_for view cut [] (record { state = with_waiting cut.state waiting; placed = cut.placed; excluded = cut.excluded })
forgets_arrival policy key_for view cut s waiting is over = excludes_more policy key_for view cut cut.excluded (with_waiting cut.state waiting)
    (record { placed = λ iface. omega arith; excluded = λ q e. e; settled = λ q e. refl })
    (record {
      now = refl;
      table = λ c. entry_refl policy.grace cut.state.now (cut.state.table c);
      waiting = λ q h. subst (λ (o : Option ℕ). AreAlikeTimes policy.hold cut.state.now (cut.state.waiting q) o) (sym (is q)) (at q);
      owed = λ q h. refl;
      sent = λ q h p. refl;
    }) where
      at : (q : SightId) → AreAlikeTimes policy.hold cut.state.now (cut.state.waiting q) (put same_sight cut.state.waiting s None q)
      at q = elim (same_sight q s) as (λ b. same_sight q s ≡ b → AreAlikeTimes policy.hold cut.state.now (cut.state.waiting q) (cond b None (cut.state.waiting q))) [
        | true ↦ λ e. inr (too_old_of policy.hold cut.state.now (cut.state.waiting q) (subst (λ (z : SightId). IsSomeAnd (cut.state.waiting z) (λ came. later came policy.hold < cut.state.now)) (sym (sight_true q s e)) over), tt)
        | false ↦ λ e. inl refl
      ] refl
