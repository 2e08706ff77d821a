-- A state is alike to what is kept of it.
use Rattle.std.proofs.Common.{◌≡◌, ◌≢◌, ◌≤◌, ◌⊎◌, inl, inr, ℕ, Bool, true, false, cond, Option, Some, None, List, [], ◌∷◌, refl, sym, ◌∙◌, ap, subst, arith}
use Rattle.std.specs.Prelude.{is_some, nat_lt}
use Rattle.std.specs.List.{fold}
use Rattle.std.proofs.lemmas.Bool.{ltb-true, and_parts, true≢false}
use Rattle.audit_model.specs.declared.policy.Policy.{Policy}
use Rattle.audit_model.specs.declared.sighting.SightId.{SightId}
use Rattle.audit_model.proofs.Sames.{sight_true, sight_same}
use Rattle.audit_model.specs.Sames.{same_sight}
use Rattle.audit_model.specs.Window.{later}
use Rattle.audit_expiry.specs.declared.lease.Lease.{Lease}
use Rattle.audit_rules.specs.declared.table.Channel.{Channel}
use Rattle.audit_rules.specs.Allocation.{Allocation}
use Rattle.audit_rules.specs.Keys.{KeyFor}
use Rattle.audit_server.specs.Captured.{rules_of}
use Rattle.audit_server.specs.Placing.{places, times_placed}
use Rattle.audit_server.specs.Rules.{Rules}
use Rattle.audit_server.specs.Run.{InTime, MayMove, RunFrom}
use Rattle.audit_server.specs.State.{State, after, sent_after, owed_after}
use Rattle.audit_server.specs.Step.{Step, Move, In, Act, Out}
use Rattle.audit_server.proofs.Placing.{one_if}
use Rattle.audit_server.proofs.Sorting.{count_cons}
use Rattle.audit_segments.specs.PastGrace.{IsPastGrace, AreAlikeLeases, AreAlikeChannels, AreAlikeAllocations, AreAlikeEntries}
use Rattle.audit_segments.specs.Alike.{AreAlikeTimes, AreAlike, is_placed}
use Rattle.audit_segments.specs.Cut.{Cut}
use Rattle.audit_segments.specs.Kept.{kept_time, is_past_grace, kept_lease, kept_channel, kept_leases_of, kept_allocation, kept_state, SentAreOwed}
use Rattle.audit_segments.specs.Segment.{View, IsSegment}
use Rattle.audit_segments.proofs.Due.{due_parts}
use Rattle.audit_segments.proofs.States.{placed_more}

time_alike : (hold now : ℕ) (o : Option ℕ) → AreAlikeTimes hold now o (kept_time hold now o)
time_alike hold now None = inl refl
time_alike hold now (Some came) = elim (nat_lt (later came hold) now) as (λ b. nat_lt (later came hold) now ≡ b → AreAlikeTimes hold now (Some came) (cond b None (Some came))) [
  | true ↦ λ q. inr (ltb-true (later came hold) now q, tt)
  | false ↦ λ q. inl refl
] refl

module _ (grace now : ℕ) where
  past_grace : (until : ℕ) → is_past_grace grace now until ≡ true → IsPastGrace grace now until
  past_grace until h =
      let k = and_parts (nat_lt until now) (nat_lt (later until grace) now) h in
      (ltb-true until now k.0, ltb-true (later until grace) now k.1)

  lease_alike : (o : Option Lease) → AreAlikeLeases grace now o (kept_lease grace now o)
  lease_alike None = inl refl
  lease_alike (Some l) = elim (is_past_grace grace now l.until) as (λ b. is_past_grace grace now l.until ≡ b → AreAlikeLeases grace now (Some l) (cond b None (Some l))) [
    | true ↦ λ q. inr (past_grace l.until q, tt)
    | false ↦ λ q. inl refl
  ] refl

  channel_alike : (o : Option Channel) → AreAlikeChannels grace now o (kept_channel grace now o)
  channel_alike None = inl refl
  channel_alike (Some l) = elim (is_past_grace grace now l.lease.until) as (λ b. is_past_grace grace now l.lease.until ≡ b → AreAlikeChannels grace now (Some l) (cond b None (Some l))) [
    | true ↦ λ q. inr (past_grace l.lease.until q, tt)
    | false ↦ λ q. inl refl
  ] refl

  one_alike : (a : Allocation) → AreAlikeAllocations grace now a (kept_leases_of grace now a)
  one_alike a = record { relayed = refl; user = refl; id = refl; until = refl; permissions = λ ip. lease_alike (a.permissions ip); channels = λ n. channel_alike (a.channels n) }

  entry_alike : (o : Option Allocation) → AreAlikeEntries grace now o (kept_allocation grace now o)
  entry_alike None = inl (tt, tt)
  entry_alike (Some a) = elim (is_past_grace grace now a.until) as (λ b. is_past_grace grace now a.until ≡ b → AreAlikeEntries grace now (Some a) (cond b None (Some (kept_leases_of grace now a)))) [
    | true ↦ λ q. inl (past_grace a.until q, tt)
    | false ↦ λ q. inr (one_alike a)
  ] refl

pub kept_alike : (hold grace : ℕ) (placed : ℕ → ℕ) (excluded : SightId → Bool) (st : State) → SentAreOwed placed st → AreAlike hold grace placed excluded st (kept_state hold grace st)
kept_alike hold grace placed excluded st sent_owed = record {
  now = refl;
  table = λ c. entry_alike grace st.now (st.table c);
  waiting = λ s h. time_alike hold st.now (st.waiting s);
  owed = λ t h. refl;
  sent = λ t h p. sent_owed t p;
}

-- ---- a departure that is not placed was sent exactly if it is owed

in_time_some : (w : Rules) (o : Option ℕ) (moment : ℕ) → InTime w o moment → is_some o ≡ true
in_time_some w None moment h = absurd h
in_time_some w (Some n) moment h = refl

sent_owed_move : (w : Rules) (t : SightId) (st : State) (moment : ℕ) (m : Move) → MayMove w st moment m → m ≢ Out t → st.sent t ≡ is_some (st.owed t) → sent_after st m t ≡ is_some (owed_after st moment m t)
sent_owed_move w t st moment (In s) h n k = k
sent_owed_move w t st moment (Act c s u) h n k = elim (same_sight t u) as (λ b. cond b true (st.sent t) ≡ is_some (cond b (st.waiting s) (st.owed t))) [
  | true ↦ sym (in_time_some w (st.waiting s) moment h.0)
  | false ↦ k
]
sent_owed_move w t st moment (Out u) h n k = elim (same_sight t u) as (λ b. same_sight t u ≡ b → st.sent t ≡ is_some (cond b None (st.owed t))) [
  | true ↦ λ q. absurd (n (ap Out (sym (sight_true t u q))))
  | false ↦ λ q. k
] refl

not_out : (t : SightId) (e : Step) (es : List Step) → times_placed t (e ∷ es) ≡ 0 → e.move ≢ Out t
not_out t e es z h =
    let one = one_if (places t e.move) (ap (places t) h ∙ sight_same t t refl) in
    absurd (omega (arith, z, one, count_cons (λ (d : Step). places t d.move) e es))

pub sent_owed_run : (w : Rules) (t : SightId) (es : List Step) (st : State) → RunFrom w st es → times_placed t es ≡ 0 → st.sent t ≡ is_some (st.owed t) → (fold (after w) st es).sent t ≡ is_some ((fold (after w) st es).owed t)
sent_owed_run w t [] st r z k = k
sent_owed_run w t (e ∷ es) st r z k =
    sent_owed_run w t es (after w st e) r.1 (omega (arith, z, count_cons (λ (d : Step). places t d.move) e es)) (sent_owed_move w t st e.moment e.move r.0.may (not_out t e es z) k)

module _ (policy : Policy) (key_for : KeyFor) (view : View) (old new : Cut) (steps : List Step) (one : IsSegment policy key_for view old steps new) where
  none_placed : (t : SightId) → is_placed new.placed t ≡ false → times_placed t steps ≡ 0
  none_placed t h = elim (is_placed_cases (times_placed t steps)) [
    | inl z ↦ z
    | inr some ↦ absurd (let k = due_parts (is_some (view t)) (new.excluded t) (is_placed old.placed t) (is_placed new.placed t) (subst (λ (n : ℕ). 1 ≤ n) (one.placed t) some) in true≢false (sym k.1 ∙ h))
  ] where
    is_placed_cases : (n : ℕ) → (n ≡ 0) ⊎ (1 ≤ n)
    is_placed_cases n = grind arith

  fewer : (t : SightId) → is_placed new.placed t ≡ false → is_placed old.placed t ≡ false
  fewer t h = elim (is_placed old.placed t) as (λ b. is_placed old.placed t ≡ b → b ≡ false) [
    | true ↦ λ q. absurd (true≢false (sym (still t q) ∙ h))
    | false ↦ λ q. refl
  ] refl where
    still : (t : SightId) → is_placed old.placed t ≡ true → is_placed new.placed t ≡ true
    still t q = placed_more old.placed new.placed one.extends.placed t q

  -- if this holds before the segment, it holds of the state to which the steps lead
  pub sent_owed_on : SentAreOwed old.placed old.state → SentAreOwed new.placed (fold (after (rules_of policy key_for view)) old.state steps)
  sent_owed_on sent_owed t h = sent_owed_run (rules_of policy key_for view) t steps old.state one.runs (none_placed t h) (sent_owed t (fewer t h))

  -- so the segment leads to what is kept of that state
  pub keeps : SentAreOwed old.placed old.state → IsSegment policy key_for view old steps (record { state = kept_state policy.hold policy.grace (fold (after (rules_of policy key_for view)) old.state steps); placed = new.placed; excluded = new.excluded })
  keeps sent_owed = record {
    placed = one.placed;
    seen = one.seen;
    order = one.order;
    names = one.names;
    runs = one.runs;
    leads = kept_alike policy.hold policy.grace new.placed new.excluded (fold (after (rules_of policy key_for view)) old.state steps) (sent_owed_on sent_owed);
    extends = record { placed = one.extends.placed; excluded = one.extends.excluded; settled = one.extends.settled };
  }
