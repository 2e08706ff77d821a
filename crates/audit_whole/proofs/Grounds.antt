-- A run is grounded.
use Rattle.std.proofs.Common.{◌≡◌, ◌⊎◌, inl, inr, ℕ, Option, Some, None, List, [], ◌∷◌, ◌++◌, refl, sym, ◌∙◌, ap, subst, append_assoc}
use Rattle.std.specs.Prelude.{IsSomeAnd}
use Rattle.std.specs.List.{fold}
use Rattle.audit_model.specs.declared.address.Addr.{Addr}
use Rattle.audit_model.specs.declared.sighting.SightId.{SightId}
use Rattle.audit_model.specs.declared.sighting.Sighting.{Sighting}
use Rattle.audit_stun.specs.declared.class.Class.{Class}
use Rattle.audit_stun.specs.declared.class.Class.TheVariants.{Success, Error}
use Rattle.audit_stun.specs.declared.numbers.method.TheConstants.{BINDING, ALLOCATE, REFRESH, CREATE_PERMISSION, CHANNEL_BIND}
use Rattle.audit_sightings.specs.Intake.{Taken, sighting_at}
use Rattle.audit_expiry.specs.declared.lease.Lease.{Lease}
use Rattle.audit_rules.specs.declared.table.Channel.{Channel}
use Rattle.audit_rules.specs.declared.path.Path.{Path}
use Rattle.audit_rules.specs.declared.path.Path.TheVariants.{Client, Relay}
use Rattle.audit_rules.specs.Allocation.{Allocation, Change}
use Rattle.audit_rules.specs.Answer.{MayAnswer, Answers, Case, Binding, Error as ErrorCase, New, Again, Refresh, Permission, ChannelBind, Send, ChannelUp, Data, ChannelDown}
use Rattle.audit_rules.specs.Situation.{Situation, arrival_parts, arrival_path, departure_path}
use Rattle.audit_rules.specs.Standing.{IsResponse, UsableNow, Permits as PermitsNow, Carries}
use Rattle.audit_server.specs.Step.{Step, Move, Act, Out}
use Rattle.audit_server.specs.Rules.{Rules}
use Rattle.audit_model.specs.declared.pair.Pair.{Pair}
use Rattle.audit_server.specs.State.{State, at_first, after}
use Rattle.audit_server.specs.Run.{MayMove, Allowed, RunFrom}
use Rattle.audit_server.specs.Holding.{AnyOf}
use Rattle.audit_rules.specs.Said.{change_in}
use Rattle.audit_server.specs.Captured.{situation_at, MayBetween}
use Rattle.audit_server.proofs.Once.{gave, not_none}
use Rattle.audit_whole.specs.CaptureRun.{rules_for}
use Rattle.audit_rules.specs.Keys.{KeyFor}
use Rattle.audit_whole.specs.Lasting.{IsAct, Given}
use Rattle.audit_whole.specs.Granted.{BoundTo}
use Rattle.audit_whole.specs.Relayed.{Live, HasPermission, HasChannel, GroundedUp, GroundedDown}
use Rattle.audit_whole.specs.Grounded.{IsAResponse, IsGivenBy, IsGrounded}
use Rattle.audit_whole.proofs.Keeping.{Kept, IsKept, all_kept}

run_front : (w : Rules) (p q : List Step) (st : State) → RunFrom w st (p ++ q) → RunFrom w st p
run_front w [] q st r = tt
run_front w (e ∷ p) q st r = (r.0, run_front w p q (after w st e) r.1)

step_of_run : (w : Rules) (p : List Step) (e : Step) (q : List Step) (st : State) → RunFrom w st (p ++ e ∷ q) → Allowed w (fold (after w) st p) e
step_of_run w [] e q st r = r.0
step_of_run w (d ∷ p) e q st r = step_of_run w p e q (after w st d) r.1

client_never : (o : Option Path) → o ≡ Some Client → o ≡ Some Relay → ⊥
client_never o e f = let k : Some Client ≡ Some Relay = sym e ∙ f in no k where
  is_client : Option Path → Type 0
  is_client None = ⊥
  is_client (Some Client) = Unit {0}
  is_client (Some Relay) = ⊥

  no : Some Client ≡ Some Relay → ⊥
  no h = subst is_client h tt

nested : {A : Type 0} (o : Option A) (U R P C : A → Type 0) → IsSomeAnd o (λ a. U a × (R a × P a × C a)) → IsSomeAnd o (λ a. U a × (R a × (P a × C a)))
nested None U R P C h = h
nested (Some a) U R P C h = (h.0, (h.1.0, (h.1.1, h.1.2)))

module _ (taken : Taken) (key_for : KeyFor) (c : Pair) (moment : ℕ) (arrives leaves : Sighting) (before : List Step) where
  abbrev Y : Option Allocation → Situation
  Y found = situation_at taken.policy key_for c moment found arrives leaves

  live : (found : Option Allocation) → IsKept taken key_for c before found → (relayed : Addr) (Fact : Allocation → Type 0) (Shown : List ℕ → List Step → Type 0) →
      IsSomeAnd found (λ a. UsableNow (Y found) a.until × ((relayed ≡ a.relayed) × Fact a)) → ((a : Allocation) (k : Kept taken key_for c before a) → Fact a → Shown a.user k.since) → Live taken key_for c moment relayed before Shown
  live None kept relayed Fact Shown h f = absurd h
  live (Some a) kept relayed Fact Shown h f = record {
    user = a.user;
    id = a.id;
    end = a.until;
    since = kept.since;
    sent = subst (λ (r : Addr). Given taken key_for c a.user a.id r a.until before kept.since) (sym h.1.0) kept.sent;
    in_time = h.0;
    fact = f a kept h.1.1;
  }

  some_and : {A : Type 0} (o : Option A) (P : A → Type 0) → IsSomeAnd o P → (a : A) × (o ≡ Some a) × P a
  some_and (Some a) P p = (a, refl, p)
  some_and None P p = absurd p

  has_permission : (found : Option Allocation) (ip : ℕ) (a : Allocation) (k : Kept taken key_for c before a) → PermitsNow (Y found) a ip → HasPermission taken key_for c moment ip a.user k.since
  has_permission found ip a k p =
      let l = some_and (a.permissions ip) (λ (lease : Lease). UsableNow (Y found) lease.until) p in
      (l.0.until, k.permissions ip l.0 l.1, l.2)

  has_channel : (found : Option Allocation) (number : ℕ) (peer : Addr) (a : Allocation) (k : Kept taken key_for c before a) → Carries (Y found) a number peer → HasChannel taken key_for c moment number peer a.user k.since
  has_channel found number peer a k p =
      let l = some_and (a.channels number) (λ (channel : Channel). (channel.peer ≡ peer) × UsableNow (Y found) channel.lease.until) p in
      (l.0.lease.until, subst (λ (x : Addr). BoundTo taken key_for c a.user number x l.0.lease.until k.since) l.2.0 (k.channels number l.0 l.1), l.2.1)

  module _ (found : Option Allocation) (kept : IsKept taken key_for c before found) where
    not_up : (class : Class) (method : ℕ) → IsResponse (Y found) class method → departure_path (Y found) ≡ Some Relay → ⊥
    not_up class method r h = client_never (departure_path (Y found)) r.back h

    up_case : (case : Case) (ch : Change) → Answers case (Y found) ch → departure_path (Y found) ≡ Some Relay → GroundedUp taken key_for c moment arrives leaves before
    up_case Binding ch r h = absurd (not_up Success BINDING r.0.response h)
    up_case ErrorCase ch r h = absurd (not_up Error (arrival_parts (Y found)).method r.0.response h)
    up_case New ch r h = absurd (not_up Success ALLOCATE r.response h)
    up_case Again ch r h = absurd (not_up Success ALLOCATE r.0.response h)
    up_case Refresh ch r h = absurd (not_up Success REFRESH r.response h)
    up_case Permission ch r h = absurd (not_up Success CREATE_PERMISSION r.response h)
    up_case ChannelBind ch r h = absurd (not_up Success CHANNEL_BIND r.response h)
    up_case Send ch r h = (r.0.goes.0, inl (r.0.indication, r.0.peer, r.0.sends, live found kept leaves.from (λ a. PermitsNow (Y found) a leaves.to.ip) (HasPermission taken key_for c moment leaves.to.ip) r.0.relays (λ a k p. has_permission found leaves.to.ip a k p)))
    up_case ChannelUp ch r h = (r.0.goes.0, inr (r.0.number, r.0.past, r.0.says, live found kept leaves.from (λ a. Carries (Y found) a r.0.number leaves.to) (HasChannel taken key_for c moment r.0.number leaves.to) r.0.relays (λ a k p. has_channel found r.0.number leaves.to a k p)))
    up_case Data ch r h = absurd (client_never (departure_path (Y found)) r.0.goes.1 h)
    up_case ChannelDown ch r h = absurd (client_never (departure_path (Y found)) r.0.goes.1 h)

    not_down : (class : Class) (method : ℕ) → IsResponse (Y found) class method → arrival_path (Y found) ≡ Some Relay → ⊥
    not_down class method r h = client_never (arrival_path (Y found)) r.forth h

    down_case : (case : Case) (ch : Change) → Answers case (Y found) ch → arrival_path (Y found) ≡ Some Relay → GroundedDown taken key_for c moment arrives leaves before
    down_case Binding ch r h = absurd (not_down Success BINDING r.0.response h)
    down_case ErrorCase ch r h = absurd (not_down Error (arrival_parts (Y found)).method r.0.response h)
    down_case New ch r h = absurd (not_down Success ALLOCATE r.response h)
    down_case Again ch r h = absurd (not_down Success ALLOCATE r.0.response h)
    down_case Refresh ch r h = absurd (not_down Success REFRESH r.response h)
    down_case Permission ch r h = absurd (not_down Success CREATE_PERMISSION r.response h)
    down_case ChannelBind ch r h = absurd (not_down Success CHANNEL_BIND r.response h)
    down_case Send ch r h = absurd (client_never (arrival_path (Y found)) r.0.goes.0 h)
    down_case ChannelUp ch r h = absurd (client_never (arrival_path (Y found)) r.0.goes.0 h)
    down_case Data ch r h = (r.0.goes.1, inl (r.0.indication, r.0.peer, r.0.sends, live found kept arrives.to (λ a. PermitsNow (Y found) a arrives.from.ip) (HasPermission taken key_for c moment arrives.from.ip) r.0.relays (λ a k p. has_permission found arrives.from.ip a k p)))
    down_case ChannelDown ch r h = (
      r.0.goes.1,
      inr (
        r.0.number,
        r.0.past,
        r.0.says,
        live found kept arrives.to (λ a. PermitsNow (Y found) a arrives.from.ip × Carries (Y found) a r.0.number arrives.from)
            (λ user since. HasPermission taken key_for c moment arrives.from.ip user since × HasChannel taken key_for c moment r.0.number arrives.from user since)
            (nested found (λ a. UsableNow (Y found) a.until) (λ a. arrives.to ≡ a.relayed) (λ a. PermitsNow (Y found) a arrives.from.ip) (λ a. Carries (Y found) a r.0.number arrives.from) r.0.relays)
            (λ a k p. (has_permission found arrives.from.ip a k p.0, has_channel found r.0.number arrives.from a k p.1)),
      ),
    )

    response_kind : (class : Class) (method : ℕ) → IsResponse (Y found) class method → (class ≡ Success) ⊎ (class ≡ Error) → IsAResponse (Y None)
    response_kind class method r k = (r.back, r.response.0, elim k [ inl e ↦ inl (r.response.1 ∙ e) | inr e ↦ inr (r.response.1 ∙ e) ])

    kind_case : (case : Case) (ch : Change) → Answers case (Y found) ch → (departure_path (Y None) ≡ Some Relay) ⊎ (arrival_path (Y None) ≡ Some Relay) ⊎ IsAResponse (Y None)
    kind_case Binding ch r = inr (inr (response_kind Success BINDING r.0.response (inl refl)))
    kind_case ErrorCase ch r = inr (inr (response_kind Error (arrival_parts (Y found)).method r.0.response (inr refl)))
    kind_case New ch r = inr (inr (response_kind Success ALLOCATE r.response (inl refl)))
    kind_case Again ch r = inr (inr (response_kind Success ALLOCATE r.0.response (inl refl)))
    kind_case Refresh ch r = inr (inr (response_kind Success REFRESH r.response (inl refl)))
    kind_case Permission ch r = inr (inr (response_kind Success CREATE_PERMISSION r.response (inl refl)))
    kind_case ChannelBind ch r = inr (inr (response_kind Success CHANNEL_BIND r.response (inl refl)))
    kind_case Send ch r = inl r.0.goes.1
    kind_case ChannelUp ch r = inl r.0.goes.1
    kind_case Data ch r = inr (inl r.0.goes.0)
    kind_case ChannelDown ch r = inr (inl r.0.goes.0)

  pub up_may : (found : Option Allocation) → IsKept taken key_for c before found → MayAnswer (Y found) (change_in (Y found)) → departure_path (Y found) ≡ Some Relay → GroundedUp taken key_for c moment arrives leaves before
  unfolding MayAnswer
  up_may found kept m h = up_case found kept m.1 (change_in (Y found)) m.2 h

  pub down_may : (found : Option Allocation) → IsKept taken key_for c before found → MayAnswer (Y found) (change_in (Y found)) → arrival_path (Y found) ≡ Some Relay → GroundedDown taken key_for c moment arrives leaves before
  unfolding MayAnswer
  down_may found kept m h = down_case found kept m.1 (change_in (Y found)) m.2 h

  pub kind_may : (found : Option Allocation) → IsKept taken key_for c before found → MayAnswer (Y found) (change_in (Y found)) → (departure_path (Y None) ≡ Some Relay) ⊎ (arrival_path (Y None) ≡ Some Relay) ⊎ IsAResponse (Y None)
  unfolding MayAnswer
  kind_may found kept m = kind_case found kept m.1 (change_in (Y found)) m.2

module _ (taken : Taken) (key_for : KeyFor) (list : List Step) (run : RunFrom (rules_for taken key_for) at_first list) where
  abbrev W : Rules
  W = rules_for taken key_for

  pub may_here : (before : List Step) (e : Step) (rest : List Step) → before ++ e ∷ rest ≡ list → (c : Pair) (arrives leaves : Sighting) (a : IsAct taken key_for c e arrives leaves) →
      MayBetween taken.policy key_for c e.moment ((fold (after W) at_first before).table c) (Some arrives) (Some leaves)
  may_here before e rest h c arrives leaves a =
      let r : RunFrom W at_first (before ++ e ∷ rest) = subst (λ (l : List Step). RunFrom W at_first l) (sym h) run in
      let st : State = fold (after W) at_first before in
      let may : MayMove W st e.moment (Act c a.sight a.gives) = subst (λ (m : Move). MayMove W st e.moment m) a.is (step_of_run W before e rest at_first r).may in
      subst (λ (o : Option Sighting). MayBetween taken.policy key_for c e.moment (st.table c) (Some arrives) o) a.left
      (subst (λ (o : Option Sighting). MayBetween taken.policy key_for c e.moment (st.table c) o (sighting_at taken a.gives)) a.arrived may.2)

  kept_here : (before : List Step) (e : Step) (rest : List Step) → before ++ e ∷ rest ≡ list → (c : Pair) → IsKept taken key_for c before ((fold (after W) at_first before).table c)
  kept_here before e rest h c = all_kept taken key_for c [] before at_first (run_front W before (e ∷ rest) at_first (subst (λ (l : List Step). RunFrom W at_first l) (sym h) run)) tt

  any_split : {A : Type 0} (P : A → Type 0) (xs : List A) → AnyOf P xs → (p : List A) × (x : A) × (q : List A) × (p ++ x ∷ q ≡ xs) × P x
  any_split P [] h = absurd h
  any_split P (x ∷ xs) (inl h) = ([], x, xs, refl, h)
  any_split P (x ∷ xs) (inr h) = let r = any_split P xs h in (x ∷ r.0, r.1, r.2, ap (λ ys. x ∷ ys) r.3, r.4)

  both_there : (c : Pair) (moment : ℕ) (found : Option Allocation) (o q : Option Sighting) → MayBetween taken.policy key_for c moment found o q → (arrives : Sighting) × (leaves : Sighting) × (o ≡ Some arrives) × (q ≡ Some leaves)
  both_there c moment found None q m = absurd m
  both_there c moment found (Some arrives) None m = absurd m
  both_there c moment found (Some arrives) (Some leaves) m = (arrives, leaves, refl, refl)

  given_by : (before : List Step) (e : Step) (rest : List Step) → before ++ e ∷ rest ≡ list → (t : SightId) → e.move ≡ Out t → IsGivenBy taken key_for t before
  given_by before e rest h t is =
      let r : RunFrom W at_first (before ++ e ∷ rest) = subst (λ (l : List Step). RunFrom W at_first l) (sym h) run in
      let may : MayMove W (fold (after W) at_first before) e.moment (Out t) = subst (λ (m : Move). MayMove W (fold (after W) at_first before) e.moment m) is (step_of_run W before e rest at_first r).may in
      let o = any_split (λ (d : Step). (c : Pair) × (s : SightId) × (d.move ≡ Act c s t)) before (gave W t before at_first refl (not_none W _ e.moment may)) in
      let c : Pair = o.4.0 in
      let s : SightId = o.4.1 in
      let whole : o.0 ++ o.1 ∷ (o.2 ++ e ∷ rest) ≡ list = sym (append_assoc o.0 (o.1 ∷ o.2) (e ∷ rest)) ∙ ap (λ l. l ++ e ∷ rest) o.3 ∙ h in
      let q : RunFrom W at_first (o.0 ++ o.1 ∷ (o.2 ++ e ∷ rest)) = subst (λ (l : List Step). RunFrom W at_first l) (sym whole) run in
      let st : State = fold (after W) at_first o.0 in
      let act : MayMove W st o.1.moment (Act c s t) = subst (λ (m : Move). MayMove W st o.1.moment m) o.4.2 (step_of_run W o.0 o.1 (o.2 ++ e ∷ rest) at_first q).may in
      let both = both_there c o.1.moment (st.table c) (sighting_at taken s) (sighting_at taken t) act.2 in
      let a : IsAct taken key_for c o.1 both.0 both.1 = record { sight = s; gives = t; is = o.4.2; arrived = both.2; left = both.3 } in
      record {
        earlier = o.0;
        act = o.1;
        more = o.2;
        whole = o.3;
        client = c;
        arrives = both.0;
        leaves = both.1;
        is_act = a;
        this = refl;
        kind = kind_may taken key_for c o.1.moment both.0 both.1 o.0 (st.table c) (kept_here o.0 o.1 (o.2 ++ e ∷ rest) whole c) (may_here o.0 o.1 (o.2 ++ e ∷ rest) whole c both.0 both.1 a);
      }

  pub grounded : IsGrounded taken key_for list
  grounded = record {
    up = λ before e c arrives leaves at d. let rest = at.0.0 in let h = at.0.1 in let a = at.1 in up_may taken key_for c e.moment arrives leaves before ((fold (after W) at_first before).table c) (kept_here before e rest h c) (may_here before e rest h c arrives leaves a) d;
    down = λ before e c arrives leaves at d. let rest = at.0.0 in let h = at.0.1 in let a = at.1 in down_may taken key_for c e.moment arrives leaves before ((fold (after W) at_first before).table c) (kept_here before e rest h c) (may_here before e rest h c arrives leaves a) d;
    sent = given_by;
  }
