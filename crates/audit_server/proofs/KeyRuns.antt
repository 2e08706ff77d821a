-- A run goes by the keys of the users and realms that its acts' arrivals name, and by no others.
use Rattle.std.proofs.Common.{◌≡◌, ℕ, List, [], ◌∷◌, Option, Some, None, refl, sym, ap, subst, ◌∙◌}
use Rattle.std.specs.List.{fold, AllByRecursion}
use Rattle.audit_model.specs.declared.policy.Policy.{Policy}
use Rattle.audit_model.specs.declared.sighting.SightId.{SightId}
use Rattle.audit_model.specs.declared.sighting.Sighting.{Sighting}
use Rattle.audit_rules.specs.Allocation.{Allocation, Change, Same, Makes, Renews, Grants, Binds, Removes, applied}
use Rattle.audit_rules.specs.Answer.{MayAnswer}
use Rattle.audit_model.specs.Sames.{same_client}
use Rattle.audit_model.specs.declared.pair.Pair.{Pair}
use Rattle.audit_rules.proofs.Keys.{may_keyed, change_keyed}
use Rattle.audit_rules.specs.Keys.{AgreeOn, KeyFor}
use Rattle.audit_server.specs.Captured.{situation_at, change_between, MayBetween, rules_of}
use Rattle.audit_server.specs.Keys.{AgreeAt}
use Rattle.audit_server.specs.Rules.{Rules}
use Rattle.audit_server.specs.Run.{MayMove, HandsOutFree, IsFree, RunFrom, IsRun}
use Rattle.audit_server.specs.State.{State, at_first, after, put}
use Rattle.audit_server.specs.Step.{Step, Move, In, Act, Out}

module _ (policy : Policy) (one other : KeyFor) (sighting : SightId → Option Sighting) where
  between_may : (c : Pair) (moment : ℕ) (x : Option Allocation) (o q : Option Sighting) → ((arrives : Sighting) → o ≡ Some arrives → AgreeOn one other arrives.payload) → MayBetween policy one c moment x o q → MayBetween policy other c moment x o q
  between_may c moment x None q f m = m
  between_may c moment x (Some arrives) None f m = m
  between_may c moment x (Some arrives) (Some leaves) f m =
      let s = situation_at policy one c moment x arrives leaves in
      subst (λ (ch : Change). MayAnswer (situation_at policy other c moment x arrives leaves) ch) (change_keyed other s) (may_keyed other s (f arrives refl) _ m)

  between_change : (c : Pair) (moment : ℕ) (x : Option Allocation) (o q : Option Sighting) → change_between policy one c moment x o q ≡ change_between policy other c moment x o q
  between_change c moment x None q = refl
  between_change c moment x (Some arrives) None = refl
  between_change c moment x (Some arrives) (Some leaves) = change_keyed other (situation_at policy one c moment x arrives leaves)

  abbrev W : Rules
  W = rules_of policy one sighting

  abbrev V : Rules
  V = rules_of policy other sighting

  same_after : (st : State) (moment : ℕ) (move : Move) → after W st (record { moment = moment; move = move }) ≡ after V st (record { moment = moment; move = move })
  same_after st moment (In s) = refl
  same_after st moment (Act c s t) =
      ap (λ (ch : Change). record (after W st (record { moment = moment; move = Act c s t })) { table = put same_client st.table c (applied ch (st.table c)) }) (between_change c moment (st.table c) (sighting s) (sighting t))
  same_after st moment (Out t) = refl

  same_may : (st : State) (moment : ℕ) (move : Move) → AgreeAt one other sighting move → MayMove W st moment move → MayMove V st moment move
  same_may st moment (In s) f m = m
  same_may st moment (Act c s t) f m = (m.0, m.1, between_may c moment (st.table c) (sighting s) (sighting t) f m.2)
  same_may st moment (Out t) f m = m

  free_of : (st : State) (moment : ℕ) (c : Pair) (ch : Change) → IsFree W st moment c ch → IsFree V st moment c ch
  free_of st moment c Same h = h
  free_of st moment c (Makes made) h = h
  free_of st moment c (Renews until) h = h
  free_of st moment c (Grants ips until) h = h
  free_of st moment c (Binds number peer until permitted) h = h
  free_of st moment c Removes h = h

  same_free : (st : State) (moment : ℕ) (move : Move) → AgreeAt one other sighting move → HandsOutFree W st moment move → HandsOutFree V st moment move
  same_free st moment (In s) f h = h
  same_free st moment (Act c s t) f h = free_of st moment c (change_between policy other c moment (st.table c) (sighting s) (sighting t)) (subst (IsFree W st moment c) (between_change c moment (st.table c) (sighting s) (sighting t)) h)
  same_free st moment (Out t) f h = h

  pub same_runs : (steps : List Step) (st : State) → AllByRecursion (λ (e : Step). AgreeAt one other sighting e.move) steps → RunFrom W st steps → RunFrom V st steps × (fold (after W) st steps ≡ fold (after V) st steps)
  same_runs [] st f r = (tt, refl)
  same_runs (e ∷ es) st f r =
      let step = same_after st e.moment e.move in
      let rest = same_runs es (after W st e) f.1 r.1 in (
        (record { in_order = r.0.in_order; may = same_may st e.moment e.move f.0 r.0.may; free = same_free st e.moment e.move f.0 r.0.free }, subst (λ (x : State). RunFrom V x es) step rest.0),
        rest.1 ∙ ap (λ (x : State). fold (after V) x es) step,
      )

  pub same_run : (steps : List Step) → AllByRecursion (λ (e : Step). AgreeAt one other sighting e.move) steps → IsRun W steps → IsRun V steps
  same_run steps f r =
      let k = same_runs steps at_first f r.runs in
      record { runs = k.0; nothing_owed = λ t. ap (λ (x : State). x.owed t) (sym k.1) ∙ r.nothing_owed t }

-- what agrees one way agrees the other way
agree_move : (one other : KeyFor) (sighting : SightId → Option Sighting) (move : Move) → AgreeAt one other sighting move → AgreeAt other one sighting move
agree_move one other sighting (In s) f = f
agree_move one other sighting (Act c s t) f = λ arrives is user realm named_user named_realm. sym (f arrives is user realm named_user named_realm)
agree_move one other sighting (Out t) f = f

pub agree_back : (one other : KeyFor) (sighting : SightId → Option Sighting) (steps : List Step) → AllByRecursion (λ (e : Step). AgreeAt one other sighting e.move) steps → AllByRecursion (λ (e : Step). AgreeAt other one sighting e.move) steps
agree_back one other sighting [] f = tt
agree_back one other sighting (e ∷ es) f = (agree_move one other sighting e.move f.0, agree_back one other sighting es f.1)
