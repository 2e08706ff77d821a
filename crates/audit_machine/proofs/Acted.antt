-- The machine after an act.
use Rattle.std.proofs.Common.{◌≡◌, ◌≢◌, ◌≤◌, ◌<◌, ◌^◌, ℕ, Bool, true, false, cond, Option, Some, None, List, refl, sym, ◌∙◌, ap, subst}
use Rattle.std.specs.Prelude.{is_some, option_and_then}
use Rattle.std.proofs.lemmas.Bool.{true≢false, cond-true, cond-false}
use Rattle.std.proofs.lemmas.Option.{same_Some}
use Rattle.audit_model.specs.declared.pair.Pair.{Pair}
use Rattle.audit_model.specs.declared.sighting.SightId.{SightId}
use Rattle.audit_model.specs.declared.sighting.Sighting.{Sighting}
use Rattle.audit_model.specs.Sames.{same_sight, same_client}
use Rattle.audit_model.specs.Window.{later}
use Rattle.audit_model.proofs.Sames.{client_true, client_same, client_apart}
use Rattle.audit_expiry.specs.Lease.{IsUsable}
use Rattle.audit_rules.specs.declared.credentials.CredRow.{CredRow}
use Rattle.audit_rules.specs.declared.table.LaneTable.{LaneTable}
use Rattle.audit_rules.specs.Keys.{KeyFor}
use Rattle.audit_machine.specs.Keys.{AgreeInRequest}
use Rattle.audit_rules.specs.Allocation.{Allocation, applied}
use Rattle.audit_rules.specs.Answer.{MayAnswer}
use Rattle.audit_rules.specs.Effect.{standing}
use Rattle.audit_rules.specs.Said.{change_in}
use Rattle.audit_rules.specs.Seen.{key_in, situation_of}
use Rattle.audit_server.specs.Captured.{rules_of}
use Rattle.audit_server.specs.Run.{InTime}
use Rattle.audit_server.specs.State.{put}
use Rattle.audit_server.specs.Step.{Act}
use Rattle.audit_segments.specs.Segment.{View, IsSegment}
use Rattle.audit_segments.proofs.States.{from_unplaced}
use Rattle.audit_machine.specs.declared.machine.Machine.{Machine}
use Rattle.audit_machine.specs.declared.tables.Tables.{Tables}
use Rattle.audit_machine.specs.Counts.{count_of}
use Rattle.audit_machine.specs.Holders.{holder_of}
use Rattle.audit_machine.specs.Machine.{cut_of, IsConsistent, AreHeld, AreOthersHeld, IfUsable, IsFreeFor, one_step}
use Rattle.audit_machine.specs.Tables.{table_of, allocation_in, allocation_of, AreOwn}
use Rattle.audit_machine.specs.Times.{time_of}
use Rattle.audit_machine.proofs.Acting.{others_same, free_before, may_here, acted_here, free_here}
use Rattle.audit_machine.proofs.Single.{act_is_segment}

-- the machine after an act for a client: its table was taken out, changed and put in
pub record IsActed (old : Machine) (mid : Tables) (table : LaneTable) (pair : Pair) (s t : SightId) (came moment : ℕ) (new : Machine) : Type 0 where
  pub removed : (c : Pair) → table_of mid c ≡ put same_client (table_of old.tables) pair None c
  pub put_in : (c : Pair) → table_of new.tables c ≡ put same_client (table_of mid) pair (Some table) c
  pub waiting : (q : SightId) → time_of new.waiting q ≡ put same_sight (time_of old.waiting) s None q
  pub owed : (q : SightId) → time_of new.owed q ≡ put same_sight (time_of old.owed) t (Some came) q
  pub placed : new.placed ≡ old.placed
  pub policy : new.policy ≡ old.policy
  pub last : new.last ≡ moment

module _ (old : Machine) (mid : Tables) (table : LaneTable) (pair : Pair) (s t : SightId) (came moment : ℕ) (new : Machine) (a : IsActed old mid table pair s t came moment new) where
  own_then : table_of new.tables pair ≡ Some table
  own_then = a.put_in pair ∙ cond-true (same_client pair pair) (Some table) (table_of mid pair) (client_same pair pair refl)

  others_then : (c : Pair) → c ≢ pair → table_of new.tables c ≡ table_of old.tables c
  others_then c ne =
      a.put_in c ∙ cond-false (same_client c pair) (Some table) (table_of mid c) (client_apart c pair ne) ∙ a.removed c ∙ cond-false (same_client c pair) None (table_of old.tables c) (client_apart c pair ne)

  -- a client is the act's or another
  by_client : (P : Pair → Type 0) → P pair → ((c : Pair) → c ≢ pair → P c) → (c : Pair) → P c
  by_client P own other c = elim (same_client c pair) as (λ b. same_client c pair ≡ b → P c) [
    | true ↦ λ q. subst P (sym (client_true c pair q)) own
    | false ↦ λ q. other c (λ e. true≢false (sym (client_same c pair e) ∙ q))
  ] refl

  pub tables_then : (d : Pair) → allocation_of new.tables d ≡ put same_client (allocation_of old.tables) pair (standing table).allocation d
  tables_then = by_client (λ d. allocation_of new.tables d ≡ put same_client (allocation_of old.tables) pair (standing table).allocation d)
      (ap (option_and_then allocation_in) own_then ∙ sym (cond-true (same_client pair pair) (standing table).allocation (allocation_of old.tables pair) (client_same pair pair refl)))
      (λ c ne. ap (option_and_then allocation_in) (others_then c ne) ∙ sym (cond-false (same_client c pair) (standing table).allocation (allocation_of old.tables c) (client_apart c pair ne)))

  pub given_then : (q : SightId) → is_some (time_of new.owed q) ≡ put same_sight (λ x. is_some (time_of old.owed x)) t true q
  given_then q = ap is_some (a.owed q) ∙ by_test (same_sight q t) where
    by_test : (b : Bool) → is_some (cond b (Some came) (time_of old.owed q)) ≡ cond b true (is_some (time_of old.owed q))
    by_test true = refl
    by_test false = refl

  -- the invariant holds after the act
  pub consistent_then : (own : AreOwn old.tables) (client : (standing table).client ≡ pair.client) (listen : (standing table).listen ≡ pair.listen) →
      IfUsable old.policy.grace moment (standing table).allocation (λ b. holder_of new.holders b.relayed ≡ Some pair) → AreOthersHeld pair mid new.holders old.policy.grace moment → IsConsistent new
  consistent_then own client listen noted others = record {
    own = by_client (λ c. (one : LaneTable) → table_of new.tables c ≡ Some one → ((standing one).client ≡ c.client) × ((standing one).listen ≡ c.listen))
        (λ one is. let e : table ≡ one = same_Some table one (sym own_then ∙ is) in (ap (λ (x : LaneTable). (standing x).client) (sym e) ∙ client, ap (λ (x : LaneTable). (standing x).listen) (sym e) ∙ listen))
        (λ c ne one is. own c one (sym (others_then c ne) ∙ is));
    held = subst (λ (n : ℕ). AreHeld new.tables new.holders n new.last) (sym (ap (λ p. p.grace) a.policy)) (subst (AreHeld new.tables new.holders old.policy.grace) (sym a.last) held_then);
  } where
    held_then : AreHeld new.tables new.holders old.policy.grace moment
    held_then = by_client (λ c. (b : Allocation) → allocation_of new.tables c ≡ Some b → IsUsable b.until moment old.policy.grace → holder_of new.holders b.relayed ≡ Some c)
        (λ b is u. noted b (sym (ap (option_and_then allocation_in) own_then) ∙ is) u)
        (λ c ne b is u. others c b ne (others_same old.tables mid pair a.removed c ne ∙ sym (ap (option_and_then allocation_in) (others_then c ne)) ∙ is) u)

  module _ (order : old.last ≤ moment) (small : moment < 2 ^ 64) (waited : time_of old.waiting s ≡ Some came) (in_time : moment ≤ later came old.policy.hold) (not_owed : time_of old.owed t ≡ None) (not_placed : count_of old.placed t.iface ≤ t.index)
      (users : List CredRow) (arrives leaves : Sighting) (before : LaneTable) (client : (standing before).client ≡ pair.client) (listen : (standing before).listen ≡ pair.listen) (allocation : (standing before).allocation ≡ allocation_of old.tables pair)
      (may : MayAnswer (situation_of before users old.policy arrives leaves moment) (change_in (situation_of before users old.policy arrives leaves moment)))
      (is : (standing table).allocation ≡ applied (change_in (situation_of before users old.policy arrives leaves moment)) (standing before).allocation)
      (free : IfUsable old.policy.grace moment (standing table).allocation (λ b. IsFreeFor mid old.policy.grace moment pair b.relayed)) where
    pub segment_then : (key_for : KeyFor) (view : View) (excluded : SightId → Bool) → AgreeInRequest (key_in users) key_for arrives.payload → view s ≡ Some arrives → view t ≡ Some leaves → excluded s ≡ false → excluded t ≡ false →
        IsSegment old.policy key_for view (cut_of old excluded) (one_step moment (Act pair s t)) (cut_of new excluded)
    segment_then key_for view excluded agree there_s there_t free_s free_t =
        let st = (cut_of old excluded).state in
        let w = rules_of old.policy key_for view in
        act_is_segment old.policy key_for view (cut_of old excluded) (cut_of new excluded) moment order pair s t free_s free_t (from_unplaced (count_of old.placed) t not_placed)
        (subst (λ (o : Option ℕ). InTime w o moment) (sym waited) in_time)
        (ap is_some not_owed)
        (may_here old.policy key_for users pair arrives leaves moment agree view s t there_s there_t st before client listen allocation may)
        (free_here old.policy key_for users pair arrives leaves moment agree view s t there_s there_t st before client listen allocation may table is small
        (λ b e u. free_before old.tables mid old.policy.grace moment pair b.relayed a.removed (free b e u)))
        (λ iface. ap (λ p. count_of p iface) a.placed)
        (λ q. refl)
        a.last
        (λ d. tables_then d ∙ ap (λ (x : Option Allocation). put same_client (allocation_of old.tables) pair x d) (sym (acted_here old.policy key_for users pair arrives leaves moment agree view s t there_s there_t st before client listen allocation may table is)))
        a.waiting
        (λ q. a.owed q ∙ ap (λ (x : Option ℕ). put same_sight (time_of old.owed) t x q) (sym waited))
        given_then
