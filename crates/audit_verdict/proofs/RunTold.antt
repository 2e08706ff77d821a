-- Each request that came in tells a user with the key that the credentials have.
use Rattle.std.proofs.Common.{◌≡◌, ℕ, true, false, cond, Option, Some, None, refl, sym, ap, ◌∙◌, subst}
use Rattle.audit_model.specs.declared.event.Key.{Key}
use Rattle.audit_model.specs.declared.pair.Pair.{Pair}
use Rattle.audit_model.specs.declared.sighting.SightId.{SightId}
use Rattle.audit_model.specs.declared.sighting.Sighting.{Sighting}
use Rattle.audit_model.specs.Sames.{same_sight}
use Rattle.audit_model.proofs.Sames.{sight_true}
use Rattle.audit_rules.specs.Keys.{KeyFor}
use Rattle.audit_lane.specs.declared.noted.Arrival.{Arrival}
use Rattle.audit_lane.specs.After.{after as after_it, new_arrival, taken_up}
use Rattle.audit_lane.specs.Content.{Happening, Came, Acted, Went}
use Rattle.audit_lane.specs.Kept.{Terms, Kept, user_by}
use Rattle.audit_verdict.proofs.KeysTold.{AgreeInRequest}
use Rattle.audit_verdict.proofs.Running.{IsOpen}
use Rattle.audit_verdict.proofs.RunSteps.{IsTidy, by_bool, same_some, came_now}

module _ (terms : Terms) (key_for : KeyFor) (sighting : SightId → Option Sighting) where
  abbrev pub IsTold : Kept → Type 0
  IsTold kept = (s : SightId) (x : Sighting) (a : Arrival) → sighting s ≡ Some x → kept.came s ≡ Some a → AgreeInRequest (terms.keys a.user) key_for x.payload

  -- so does this event's, if it is one
  abbrev pub TellsUser : Happening → Type 0
  TellsUser (Came s user key) = AgreeInRequest (terms.keys user) key_for s.payload
  TellsUser (Acted a l key) = Unit {0}
  TellsUser (Went s key) = Unit {0}

  module _ (pair : Pair) (place : ℕ) (kept : Kept) (tidy : IsTidy pair place kept) (told : IsTold kept) where
    pub agrees_on : (a : Sighting) (one : Arrival) → sighting a.id ≡ Some a → kept.came a.id ≡ Some one → AgreeInRequest (terms.keys (user_by (kept.came a.id))) key_for a.payload
    agrees_on a one known is = subst (λ (o : Option Arrival). AgreeInRequest (terms.keys (user_by o)) key_for a.payload) (sym is) (told a.id a one known is)

    pub told_came : (s : Sighting) (user : Option ℕ) (key : Key) (fresh : kept.came s.id ≡ None) → sighting s.id ≡ Some s → AgreeInRequest (terms.keys user) key_for s.payload →
        IsTold (after_it terms place kept (Came s user key))
    told_came s user key fresh known tells q x a at is =
        by_bool (λ b. same_sight q s.id ≡ b → cond b (Some (new_arrival user key.moment)) (kept.came q) ≡ Some a → AgreeInRequest (terms.keys a.user) key_for x.payload) (same_sight q s.id)
        (λ e h k.
        let sight = sight_true q s.id h in
        let same : s ≡ x = same_some s x (sym known ∙ ap sighting (sym sight) ∙ at) in
        let whose : user ≡ a.user = ap (λ (one : Arrival). one.user) (same_some (new_arrival user key.moment) a k) in
        subst (λ (u : Option ℕ). AgreeInRequest (terms.keys u) key_for x.payload) whose (subst (λ (y : Sighting). AgreeInRequest (terms.keys user) key_for y.payload) same tells))
        (λ e h k. told q x a at k) refl (sym (came_now terms pair place kept tidy s user key fresh q) ∙ is)

    pub told_acted : (a l : Sighting) (key : Key) (ready : IsOpen terms.policy.hold key.moment (kept.came a.id) (kept.gave l.id)) → IsTold (after_it terms place kept (Acted a l key))
    told_acted a l key ready q x one at is =
        let open_one : Arrival = record { moment = ready.came; user = ready.user; acted = false } in
        by_bool (λ b. same_sight q a.id ≡ b → cond b (taken_up (Some open_one)) (kept.came q) ≡ Some one → AgreeInRequest (terms.keys one.user) key_for x.payload) (same_sight q a.id)
        (λ e h k.
        let came : kept.came q ≡ Some open_one = ap kept.came (sight_true q a.id h) ∙ ready.is in
        let whose : ready.user ≡ one.user = ap (λ (o : Arrival). o.user) (same_some (record { moment = ready.came; user = ready.user; acted = true }) one k) in
        subst (λ (u : Option ℕ). AgreeInRequest (terms.keys u) key_for x.payload) whose (told q x open_one at came))
        (λ e h k. told q x one at k) refl
        (ap (λ (o : Option Arrival). cond (same_sight q a.id) (taken_up o) (kept.came q)) (sym ready.is) ∙ is)
