-- A lane that passes is a run, and its tenancies are the run's.
use Rattle.std.proofs.Common.{◌≡◌, ◌↔◌, ◌+◌, ℕ, false, cond, List, [], ◌∷◌, ◌++◌, map, Option, Some, None, refl, sym, ap, ◌∙◌, subst, inl, inr}
use Rattle.std.specs.Prelude.{is_some, option_to_list}
use Rattle.std.specs.List.{All, fold, AllByRecursion}
use Rattle.std.proofs.lemmas.List.Elements.{All-head, All-tail}
use Rattle.audit_model.specs.declared.pair.Pair.{Pair}
use Rattle.audit_model.specs.declared.rule.Rule.TheVariants.{LeftWithoutAct}
use Rattle.audit_model.specs.declared.sighting.SightId.{SightId}
use Rattle.audit_model.specs.declared.sighting.Sighting.{Sighting}
use Rattle.audit_model.specs.declared.verdict.Breach.{Breach}
use Rattle.audit_model.specs.declared.verdict.Tenancy.{Tenancy}
use Rattle.audit_model.specs.Sames.{same_client}
use Rattle.audit_rules.specs.Allocation.{Allocation, Change, applied}
use Rattle.audit_rules.specs.Keys.{KeyFor}
use Rattle.audit_rules.specs.Said.{change_in}
use Rattle.audit_rules.specs.Tenancies.{running_after, ended_by}
use Rattle.audit_server.specs.Captured.{change_between, rules_of}
use Rattle.audit_server.specs.Placed.{Placed, step_of}
use Rattle.audit_server.specs.Rules.{Rules}
use Rattle.audit_server.specs.Run.{MayMove, RunFrom}
use Rattle.audit_server.specs.State.{State, after, at_first, put}
use Rattle.audit_server.specs.Tenancies.{tenancies_from}
use Rattle.audit_lane.specs.declared.noted.Departure.{Departure}
use Rattle.audit_lane.specs.After.{after as after_it}
use Rattle.audit_lane.specs.Content.{Content, Happening, Came, Acted, Went, Passes, Breaks}
use Rattle.audit_lane.specs.Faults.{IsRight, out_fault}
use Rattle.audit_lane.specs.Judged.{IsJudged, terms_of, at_start}
use Rattle.audit_lane.specs.Kept.{Terms, Kept, place_at, situation_in}
use Rattle.audit_verdict.specs.Run.{IsKnown, PlaceApart, PlacedOnce, MomentsRise, placed_at, placed_from, pair_in, move_of, steps_in, PassesAsRun}
use Rattle.audit_lane.specs.UserRows.{Tells}
use Rattle.audit_lane.specs.Walk.{EndsIn, WalksTo, key_at}
use Rattle.audit_verdict.proofs.Agreeing.{user_agrees}
use Rattle.audit_verdict.proofs.Running.{waits, owes, owes_by, state_of, IsFresh, open_to, w_of, own, came_in, change_same, AgreesOnAct, allowed_from, right_from}
use Rattle.audit_verdict.proofs.RunSteps.{IsTidy, by_bool, by_option, not_some, act_owed, act_waits, act_given, tidy_acted, fresh_acted, came_waits, tidy_came, fresh_came, went_owes, tidy_went, fresh_went}
use Rattle.audit_verdict.proofs.RunTold.{IsTold, TellsUser, agrees_on, told_came, told_acted}

given_of : (hold moment : ℕ) (o : Option Departure) → out_fault hold o moment ≡ None → (g : Departure) × (o ≡ Some g)
given_of hold moment None h = absurd (let z : Some LeftWithoutAct ≡ None = h in cc)
given_of hold moment (Some g) h = (g, refl)

assoc : (xs ys zs : List Tenancy) → xs ++ (ys ++ zs) ≡ (xs ++ ys) ++ zs
assoc [] ys zs = refl
assoc (x ∷ xs) ys zs = ap (λ l. x ∷ l) (assoc xs ys zs)

passes_not : (ts : List Tenancy) (b : Breach) → Passes ts ≡ Breaks b → ⊥
passes_not ts b h = cc

module _ (terms : Terms) (key_for : KeyFor) (pair : Pair) (sighting : SightId → Option Sighting) where
  abbrev w : Rules
  w = w_of terms key_for pair sighting

  -- what is left is a run from there on, owes nothing at the end, and has these tenancies
  pub record Rest (place : ℕ) (kept : Kept) (now : ℕ) (events : List Happening) (tenancies : List Tenancy) : Type 0 where
    pub runs : RunFrom w (state_of pair kept now) (map step_of (placed_from terms pair place events))
    pub nothing : (t : SightId) → (fold (after w) (state_of pair kept now) (map step_of (placed_from terms pair place events))).owed t ≡ None
    pub are : tenancies ≡ kept.ended ++ tenancies_from w kept.standing.allocation kept.standing.tenancy (placed_from terms pair place events)

  module _ (place : ℕ) (kept : Kept) (tidy : IsTidy pair place kept) where
    table_is : (a l : Sighting) (moment : ℕ) → sighting a.id ≡ Some a → sighting l.id ≡ Some l → (c : Pair) →
        put same_client (put same_client (λ _. None) pair kept.standing.allocation) pair
        (applied (change_between terms.policy key_for pair moment (put same_client (λ _. None) pair kept.standing.allocation pair) (sighting a.id) (sighting l.id)) (put same_client (λ _. None) pair kept.standing.allocation pair)) c
        ≡ put same_client (λ _. None) pair (applied (change_in (situation_in terms kept a l moment)) kept.standing.allocation) c
    table_is a l moment k m c =
        ap (λ (y : Option Allocation). cond (same_client c pair) y (cond (same_client c pair) kept.standing.allocation None))
        (ap (λ (x : Option Allocation). applied (change_between terms.policy key_for pair moment x (sighting a.id) (sighting l.id)) x) (own terms key_for pair sighting kept (tidy.client, tidy.listen))
        ∙ ap (λ (ch : Change). applied ch kept.standing.allocation) (change_same terms key_for pair sighting kept (tidy.client, tidy.listen) kept.standing.allocation a l moment k m refl))
        ∙ by_bool (λ b. cond b (applied (change_in (situation_in terms kept a l moment)) kept.standing.allocation) (cond b kept.standing.allocation None) ≡ cond b (applied (change_in (situation_in terms kept a l moment)) kept.standing.allocation) None)
        (same_client c pair) (λ e. refl) (λ e. refl)

    after_is : (now : ℕ) (event : Happening) → IsKnown sighting event → IsFresh kept event → IsRight terms kept event →
        after w (state_of pair kept now) (step_of (placed_at terms pair place event)) ≡ state_of pair (after_it terms place kept event) (key_at event).moment
    after_is now (Came s user key) k f r = λ i. record {
      table = put same_client (λ _. None) pair kept.standing.allocation;
      waiting = λ q. came_waits terms pair place kept tidy s user key f q i;
      owed = λ t. owes kept.owed (kept.gave t);
      sent = λ t. is_some (kept.gave t);
      now = key.moment;
    }
    after_is now (Acted a l key) k f r =
        let ready = open_to terms.policy.hold key.moment (kept.came a.id) (kept.gave l.id) r.0 in λ i. record {
          table = λ c. table_is a l key.moment k.0 k.1 c i;
          waiting = λ q. act_waits terms pair place kept tidy a l key ready q i;
          owed = λ t. act_owed terms pair place kept tidy a l key ready t i;
          sent = λ t. act_given terms pair place kept tidy a l key ready t i;
          now = key.moment;
        }
    after_is now (Went s key) k f r =
        let there = given_of terms.policy.hold key.moment (kept.gave s.id) r in λ i. record {
          table = put same_client (λ _. None) pair kept.standing.allocation;
          waiting = λ q. waits (kept.came q);
          owed = λ t. went_owes terms pair place kept tidy s key there.0 there.1 t i;
          sent = λ t. is_some (kept.gave t);
          now = key.moment;
        }

    tidy_on : (event : Happening) → IsFresh kept event → IsRight terms kept event → IsTidy pair (place + 1) (after_it terms place kept event)
    tidy_on (Came s user key) f r = tidy_came terms pair place kept tidy s user key f
    tidy_on (Acted a l key) f r = tidy_acted terms pair place kept tidy a l key (open_to terms.policy.hold key.moment (kept.came a.id) (kept.gave l.id) r.0)
    tidy_on (Went s key) f r = let there = given_of terms.policy.hold key.moment (kept.gave s.id) r in tidy_went terms pair place kept tidy s key there.0 there.1

    fresh_on : (event other : Happening) → IsFresh kept event → IsRight terms kept event → PlaceApart event other → IsFresh kept other → IsFresh (after_it terms place kept event) other
    fresh_on (Came s user key) other f r ne g = fresh_came terms pair place kept tidy s user key f other ne g
    fresh_on (Acted a l key) other f r ne g = fresh_acted terms pair place kept tidy a l key (open_to terms.policy.hold key.moment (kept.came a.id) (kept.gave l.id) r.0) other g
    fresh_on (Went s key) other f r ne g = let there = given_of terms.policy.hold key.moment (kept.gave s.id) r in fresh_went terms pair place kept tidy s key there.0 there.1 other ne g

    all_fresh : (event : Happening) (events : List Happening) → IsFresh kept event → IsRight terms kept event → AllByRecursion (PlaceApart event) events → AllByRecursion (IsFresh kept) events → AllByRecursion (IsFresh (after_it terms place kept event)) events
    all_fresh event [] f r ne g = tt
    all_fresh event (e ∷ es) f r ne g = (fresh_on event e f r ne.0 g.0, all_fresh event es f r ne.1 g.1)

    tenancies_on : (event : Happening) (rest : List Placed) → IsKnown sighting event →
        kept.ended ++ tenancies_from w kept.standing.allocation kept.standing.tenancy (placed_at terms pair place event ∷ rest)
        ≡ (after_it terms place kept event).ended ++ tenancies_from w (after_it terms place kept event).standing.allocation (after_it terms place kept event).standing.tenancy rest
    tenancies_on (Came s user key) rest k = refl
    tenancies_on (Acted a l key) rest k =
        let change = change_in (situation_in terms kept a l key.moment) in
        let left = tenancies_from w (applied change kept.standing.allocation) (running_after terms.policy.grace (place_at terms key place) a.id change kept.standing.tenancy) rest in
        ap (λ (ch : Change). kept.ended ++ (option_to_list (ended_by key ch kept.standing.tenancy) ++ tenancies_from w (applied ch kept.standing.allocation) (running_after terms.policy.grace (place_at terms key place) a.id ch kept.standing.tenancy) rest))
        (change_same terms key_for pair sighting kept (tidy.client, tidy.listen) kept.standing.allocation a l key.moment k.0 k.1 refl)
        ∙ assoc kept.ended (option_to_list (ended_by key change kept.standing.tenancy)) left
    tenancies_on (Went s key) rest k = refl

    told_on : (event : Happening) → IsTold terms key_for sighting kept → IsKnown sighting event → IsFresh kept event → IsRight terms kept event → TellsUser terms key_for sighting event →
        IsTold terms key_for sighting (after_it terms place kept event)
    told_on (Came s user key) told k f r u = told_came terms key_for sighting pair place kept tidy told s user key f k u
    told_on (Acted a l key) told k f r u = told_acted terms key_for sighting pair place kept tidy told a l key (open_to terms.policy.hold key.moment (kept.came a.id) (kept.gave l.id) r.0)
    told_on (Went s key) told k f r u = told

    agrees_right : (event : Happening) → IsTold terms key_for sighting kept → IsKnown sighting event → IsRight terms kept event → AgreesOnAct terms key_for pair sighting kept (tidy.client, tidy.listen) event
    agrees_right (Came s user key) told k r = tt
    agrees_right (Acted a l key) told k r =
        let ready = open_to terms.policy.hold key.moment (kept.came a.id) (kept.gave l.id) r.0 in
        agrees_on terms key_for sighting pair place kept tidy told a (record { moment = ready.came; user = ready.user; acted = false }) k.0 ready.is
    agrees_right (Went s key) told k r = tt

    agrees_may : (now : ℕ) (event : Happening) → IsTold terms key_for sighting kept → IsKnown sighting event → MayMove w (state_of pair kept now) (key_at event).moment (move_of pair event) → AgreesOnAct terms key_for pair sighting kept (tidy.client, tidy.listen) event
    agrees_may now (Came s user key) told k m = tt
    agrees_may now (Acted a l key) told k m =
        let came = came_in terms key_for pair sighting key.moment (kept.came a.id) m.0 in
        agrees_on terms key_for sighting pair place kept tidy told a came.0 k.0 came.1
    agrees_may now (Went s key) told k m = tt

    end_to : (now : ℕ) (ts : List Tenancy) → EndsIn kept (Passes ts) → Rest place kept now [] ts
    end_to now ts e = record {
      runs = tt;
      nothing = λ t. by_option (owes kept.owed (kept.gave t) ≡ None) (kept.gave t) (λ h. ap (owes kept.owed) h) (λ g h. ap (owes kept.owed) h ∙ ap (owes_by g.arrived) (e.0 g.place));
      are = e.1;
    }

    end_from : (now : ℕ) (ts : List Tenancy) → Rest place kept now [] ts → EndsIn kept (Passes ts)
    end_from now ts r = (
      λ p. by_option (kept.owed p ≡ None) (kept.owed p) (λ h. h) (λ o h. let n = tidy.named p o h in
          absurd (not_some n.1.arrived (sym (r.nothing n.0) ∙ ap (owes kept.owed) n.2 ∙ ap (owes_by n.1.arrived) (ap kept.owed n.3 ∙ h)))),
      r.are,
    )

  whole : (events : List Happening) (place : ℕ) (kept : Kept) (now : ℕ) → IsTidy pair place kept → IsTold terms key_for sighting kept → AllByRecursion (IsFresh kept) events → AllByRecursion (TellsUser terms key_for sighting) events →
      AllByRecursion (IsKnown sighting) events → PlacedOnce events → MomentsRise now events → (ts : List Tenancy) → WalksTo terms place kept events (Passes ts) ↔ Rest place kept now events ts
  whole [] place kept now tidy told f u k o m ts = (end_to place kept tidy now ts, end_from place kept tidy now ts)
  whole (e ∷ es) place kept now tidy told f u k o m ts = (
    λ walks. elim walks [
      | inl b ↦ absurd (passes_not ts b.0 b.2)
      | inr r ↦ (let eq = after_is place kept tidy now e k.0 f.0 r.0 in
          let rest = (whole es (place + 1) (after_it terms place kept e) (key_at e).moment (tidy_on place kept tidy e f.0 r.0) (told_on place kept tidy e told k.0 f.0 r.0 u.0) (all_fresh place kept tidy e es f.0 r.0 o.0 f.1) u.1 k.1 o.1 m.1 ts).0 r.1 in
          record {
            runs = (allowed_from terms key_for pair sighting kept (tidy.client, tidy.listen) now place e m.0 (agrees_right place kept tidy e told k.0 r.0) k.0 f.0 r.0, subst (λ (st : State). RunFrom w st (map step_of (placed_from terms pair (place + 1) es))) (sym eq) rest.runs);
            nothing = λ t. subst (λ (st : State). (fold (after w) st (map step_of (placed_from terms pair (place + 1) es))).owed t ≡ None) (sym eq) (rest.nothing t);
            are = rest.are ∙ sym (tenancies_on place kept tidy e (placed_from terms pair (place + 1) es) k.0);
          })
    ],
    λ rest.
        let right = right_from terms key_for pair sighting kept (tidy.client, tidy.listen) now e (agrees_may place kept tidy now e told k.0 rest.runs.0.may) k.0 f.0 rest.runs.0.may in
        let eq = after_is place kept tidy now e k.0 f.0 right in
        inr (
          right,
          (whole es (place + 1) (after_it terms place kept e) (key_at e).moment (tidy_on place kept tidy e f.0 right) (told_on place kept tidy e told k.0 f.0 right u.0) (all_fresh place kept tidy e es f.0 right o.0 f.1) u.1 k.1 o.1 m.1 ts).1 (record {
            runs = subst (λ (st : State). RunFrom w st (map step_of (placed_from terms pair (place + 1) es))) eq rest.runs.1;
            nothing = λ t. subst (λ (st : State). (fold (after w) st (map step_of (placed_from terms pair (place + 1) es))).owed t ≡ None) eq (rest.nothing t);
            are = rest.are ∙ tenancies_on place kept tidy e (placed_from terms pair (place + 1) es) k.0;
          }),
        ),
  )

tells_user : (content : Content) (key_for : KeyFor) (sighting : SightId → Option Sighting) (event : Happening) → Tells key_for content.users event → TellsUser (terms_of content) key_for sighting event
tells_user content key_for sighting (Came s user key) tells = user_agrees key_for content.users s.payload user tells
tells_user content key_for sighting (Acted a l key) tells = tt
tells_user content key_for sighting (Went s key) tells = tt

all_tell : (content : Content) (key_for : KeyFor) (sighting : SightId → Option Sighting) (events : List Happening) → All (Tells key_for content.users) events → AllByRecursion (TellsUser (terms_of content) key_for sighting) events
all_tell content key_for sighting [] all = tt
all_tell content key_for sighting (e ∷ es) all = (
  tells_user content key_for sighting e (All-head (Tells key_for content.users) e es all),
  all_tell content key_for sighting es (All-tail (Tells key_for content.users) e es all),
)

fresh_first : (content : Content) (events : List Happening) → AllByRecursion (IsFresh (at_start content)) events
fresh_first content [] = tt
fresh_first content (e ∷ es) = (one e, fresh_first content es) where
  one : (e : Happening) → IsFresh (at_start content) e
  one (Came s user key) = refl
  one (Acted a l key) = tt
  one (Went s key) = refl

state_first : (content : Content) → state_of (pair_in content) (at_start content) 0 ≡ at_first
state_first content = λ i. record {
  table = λ c. by_bool (λ b. cond {A = Option Allocation} b None None ≡ None) (same_client c (pair_in content)) (λ e. refl) (λ e. refl) i;
  waiting = λ s. None;
  owed = λ t. None;
  sent = λ t. false;
  now = 0;
}

pub passed_is_run : (content : Content) → PassesAsRun content
unfolding IsJudged
passed_is_run content key_for sighting tells known once rise ts =
    let rules : Rules = rules_of content.policy key_for sighting in
    let tidy : IsTidy (pair_in content) 0 (at_start content) = record { client = refl; listen = refl; below = λ t g e. absurd (not_some g e); apart = λ t u g h e f k. absurd (not_some g e); named = λ p o e. absurd (not_some o e) } in
    let told : IsTold (terms_of content) key_for sighting (at_start content) = λ s x a at e. absurd (not_some a e) in
    let all = whole (terms_of content) key_for (pair_in content) sighting content.events 0 (at_start content) 0 tidy told (fresh_first content content.events) (all_tell content key_for sighting content.events tells) known once rise ts in (
      λ judged. let rest = all.0 judged in (
        record {
          runs = subst (λ (st : State). RunFrom rules st (map step_of (steps_in content))) (state_first content) rest.runs;
          nothing_owed = λ t. subst (λ (st : State). (fold (after rules) st (map step_of (steps_in content))).owed t ≡ None) (state_first content) (rest.nothing t);
        },
        rest.are,
      ),
      λ run. all.1 (record {
        runs = subst (λ (st : State). RunFrom rules st (map step_of (steps_in content))) (sym (state_first content)) run.0.runs;
        nothing = λ t. subst (λ (st : State). (fold (after rules) st (map step_of (steps_in content))).owed t ≡ None) (sym (state_first content)) (run.0.nothing_owed t);
        are = run.1;
      }),
    )
