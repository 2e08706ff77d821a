-- A lane that passes is a run, event by event.
use Rattle.std.proofs.Common.{◌≡◌, ◌≢◌, ◌<◌, ◌+◌, ℕ, Bool, true, false, cond, Option, Some, None, refl, sym, ap, ◌∙◌, arith}
use Rattle.std.specs.Prelude.{is_some, nat_eq, option_map}
use Rattle.std.proofs.lemmas.Bool.{cond-true, cond-false, ne_eqb, eq-eqb, eqb-true}
use Rattle.audit_model.specs.declared.event.Key.{Key}
use Rattle.audit_model.specs.declared.pair.Pair.{Pair}
use Rattle.audit_model.specs.declared.sighting.SightId.{SightId}
use Rattle.audit_model.specs.declared.sighting.Sighting.{Sighting}
use Rattle.audit_model.specs.Sames.{same_sight}
use Rattle.audit_model.proofs.Sames.{sight_true, sight_same, sight_apart, sight_false}
use Rattle.audit_lane.specs.declared.noted.Arrival.{Arrival}
use Rattle.audit_lane.specs.declared.noted.Departure.{Departure}
use Rattle.audit_lane.specs.declared.noted.Owed.{Owed}
use Rattle.audit_lane.specs.After.{came_first, taken_up, departure_for, owed_without, new_arrival}
use Rattle.audit_lane.specs.After.{after as after_it}
use Rattle.audit_lane.specs.Content.{Happening, Came, Acted, Went}
use Rattle.audit_lane.specs.Kept.{Terms, Kept, place_at}
use Rattle.audit_verdict.specs.Run.{PlaceApart}
use Rattle.audit_verdict.proofs.Running.{waits, owes, owes_by, IsFresh, IsOpen}

-- each departure is given by one act, before the place; what is owed was given
pub record IsTidy (pair : Pair) (place : ℕ) (kept : Kept) : Type 0 where
  pub client : kept.standing.client ≡ pair.client
  pub listen : kept.standing.listen ≡ pair.listen
  pub below : (t : SightId) (g : Departure) → kept.gave t ≡ Some g → g.place < place
  pub apart : (t u : SightId) (g h : Departure) → kept.gave t ≡ Some g → kept.gave u ≡ Some h → g.place ≡ h.place → t ≡ u
  pub named : (p : ℕ) (o : Owed) → kept.owed p ≡ Some o → (t : SightId) × (g : Departure) × (kept.gave t ≡ Some g) × (g.place ≡ p)

pub by_bool : (P : Bool → Type 0) (b : Bool) → (b ≡ true → P true) → (b ≡ false → P false) → P b
by_bool P true f g = f refl
by_bool P false f g = g refl

pub by_option : {X : Type 0} (P : Type 0) (o : Option X) → (o ≡ None → P) → ((x : X) → o ≡ Some x → P) → P
by_option P None f g = f refl
by_option P (Some x) f g = g x refl

pub not_some : {X : Type 0} (x : X) → None ≡ Some x → ⊥
not_some x h = cc

pub same_some : {X : Type 0} (x y : X) → Some x ≡ Some y → x ≡ y
same_some x y h = cc

module _ (terms : Terms) (pair : Pair) (place : ℕ) (kept : Kept) (tidy : IsTidy pair place kept) where
  -- ---- an act
  module _ (a l : Sighting) (key : Key) (ready : IsOpen terms.policy.hold key.moment (kept.came a.id) (kept.gave l.id)) where
    abbrev pub given_now : Departure
    given_now = record { arrived = ready.came; place = place }

    abbrev pub open_arrival : Arrival
    open_arrival = record { moment = ready.came; user = ready.user; acted = false }

    gave_is : (q : SightId) → (after_it terms place kept (Acted a l key)).gave q ≡ cond (same_sight q l.id) (Some given_now) (kept.gave q)
    gave_is q = ap (λ (m : Option Arrival). cond (same_sight q l.id) (departure_for m place) (kept.gave q)) ready.is

    -- what was owed at another act's place is still
    owed_kept : (q : SightId) → owes (after_it terms place kept (Acted a l key)).owed (kept.gave q) ≡ owes kept.owed (kept.gave q)
    owed_kept q = by_option (owes (after_it terms place kept (Acted a l key)).owed (kept.gave q) ≡ owes kept.owed (kept.gave q)) (kept.gave q)
        (λ e. ap (owes (after_it terms place kept (Acted a l key)).owed) e ∙ sym (ap (owes kept.owed) e))
        (λ g e. ap (owes (after_it terms place kept (Acted a l key)).owed) e
        ∙ ap (owes_by g.arrived) (cond-false (nat_eq g.place place) (Some (record { at = place_at terms key place; sight = a.id })) (kept.owed g.place) (ne_eqb g.place place (λ h. omega (arith, h, tidy.below q g e))))
        ∙ sym (ap (owes kept.owed) e))

    owed_new : owes (after_it terms place kept (Acted a l key)).owed (Some given_now) ≡ Some ready.came
    owed_new = ap (owes_by ready.came) (cond-true (nat_eq place place) (Some (record { at = place_at terms key place; sight = a.id })) (kept.owed place) (eq-eqb place place refl))

    pub act_owed : (q : SightId) → cond (same_sight q l.id) (waits (kept.came a.id)) (owes kept.owed (kept.gave q)) ≡ owes (after_it terms place kept (Acted a l key)).owed ((after_it terms place kept (Acted a l key)).gave q)
    act_owed q = by_bool (λ b. cond b (waits (kept.came a.id)) (owes kept.owed (kept.gave q)) ≡ owes (after_it terms place kept (Acted a l key)).owed (cond b (Some given_now) (kept.gave q))) (same_sight q l.id)
        (λ e. ap waits ready.is ∙ sym owed_new) (λ e. sym (owed_kept q)) ∙ ap (owes (after_it terms place kept (Acted a l key)).owed) (sym (gave_is q))

    pub act_waits : (q : SightId) → cond (same_sight q a.id) None (waits (kept.came q)) ≡ waits ((after_it terms place kept (Acted a l key)).came q)
    act_waits q = by_bool (λ b. cond b None (waits (kept.came q)) ≡ waits (cond b (taken_up (Some open_arrival)) (kept.came q))) (same_sight q a.id) (λ e. refl) (λ e. refl)
        ∙ ap (λ (m : Option Arrival). waits (cond (same_sight q a.id) (taken_up m) (kept.came q))) (sym ready.is)

    pub act_given : (q : SightId) → cond (same_sight q l.id) true (is_some (kept.gave q)) ≡ is_some ((after_it terms place kept (Acted a l key)).gave q)
    act_given q = by_bool (λ b. cond b true (is_some (kept.gave q)) ≡ is_some (cond b (Some given_now) (kept.gave q))) (same_sight q l.id) (λ e. refl) (λ e. refl) ∙ ap is_some (sym (gave_is q))

    gave_old : (t : SightId) (g : Departure) → kept.gave t ≡ Some g → (after_it terms place kept (Acted a l key)).gave t ≡ Some g
    gave_old t g e = gave_is t ∙ cond-false (same_sight t l.id) (Some given_now) (kept.gave t) (sight_apart t l.id (λ h. not_some g (sym ready.not_given ∙ ap kept.gave (sym h) ∙ e))) ∙ e

    -- a departure is given now or was given
    gave_case : (P : Type 0) (t : SightId) (g : Departure) → (after_it terms place kept (Acted a l key)).gave t ≡ Some g → (t ≡ l.id → g.place ≡ place → P) → (kept.gave t ≡ Some g → P) → P
    gave_case P t g e now old = by_bool (λ b. cond b (Some given_now) (kept.gave t) ≡ Some g → same_sight t l.id ≡ b → P) (same_sight t l.id)
        (λ s h k. now (sight_true t l.id k) (sym (ap (λ (x : Departure). x.place) (same_some given_now g h)))) (λ s h k. old h) (sym (gave_is t) ∙ e) refl

    pub tidy_acted : IsTidy pair (place + 1) (after_it terms place kept (Acted a l key))
    tidy_acted = record {
      client = tidy.client;
      listen = tidy.listen;
      below = λ t g e. gave_case (g.place < place + 1) t g e (λ h k. omega (arith, k)) (λ h. let lt = tidy.below t g h in omega (arith, lt));
      apart = λ t u g h e f k. gave_case (t ≡ u) t g e
          (λ is at. gave_case (t ≡ u) u h f (λ is' at'. is ∙ sym is') (λ old. absurd (let lt = tidy.below u h old in omega (arith, lt, k, at))))
          (λ old. gave_case (t ≡ u) u h f (λ is' at'. absurd (let lt = tidy.below t g old in omega (arith, lt, k, at'))) (λ old'. tidy.apart t u g h old old' k));
      named = λ p o e. by_bool (λ b. cond b (Some (record { at = place_at terms key place; sight = a.id })) (kept.owed p) ≡ Some o → nat_eq p place ≡ b → (t : SightId) × (g : Departure) × ((after_it terms place kept (Acted a l key)).gave t ≡ Some g) × (g.place ≡ p)) (nat_eq p place)
          (λ s h k. (l.id, given_now, gave_is l.id ∙ cond-true (same_sight l.id l.id) (Some given_now) (kept.gave l.id) (sight_same l.id l.id refl), sym (eqb-true p place k)))
          (λ s h k. let n = tidy.named p o h in (n.0, n.1, gave_old n.0 n.1 n.2, n.3)) e refl;
    }

    pub fresh_acted : (event : Happening) → IsFresh kept event → IsFresh (after_it terms place kept (Acted a l key)) event
    fresh_acted (Came s user k) f = by_bool (λ b. same_sight s.id a.id ≡ b → cond b (taken_up (kept.came a.id)) (kept.came s.id) ≡ None) (same_sight s.id a.id)
        (λ e h. absurd (not_some open_arrival (sym f ∙ ap kept.came (sight_true s.id a.id h) ∙ ready.is))) (λ e h. f) refl
    fresh_acted (Acted b m k) f = tt
    fresh_acted (Went t k) f = sym (act_owed t.id)
        ∙ by_bool (λ b. cond b (waits (kept.came a.id)) (owes kept.owed (kept.gave t.id)) ≡ option_map (λ (g : Departure). g.arrived) (cond b (Some given_now) (kept.gave t.id))) (same_sight t.id l.id) (λ e. ap waits ready.is) (λ e. f)
        ∙ ap (option_map (λ (g : Departure). g.arrived)) (sym (gave_is t.id))

  -- ---- an arrival
  module _ (s : Sighting) (user : Option ℕ) (key : Key) (fresh : kept.came s.id ≡ None) where
    pub came_now : (q : SightId) → (after_it terms place kept (Came s user key)).came q ≡ cond (same_sight q s.id) (Some (new_arrival user key.moment)) (kept.came q)
    came_now q = ap (λ (o : Option Arrival). came_first kept.came s.id (new_arrival user key.moment) o q) fresh

    pub came_waits : (q : SightId) → cond (same_sight q s.id) (Some key.moment) (waits (kept.came q)) ≡ waits ((after_it terms place kept (Came s user key)).came q)
    came_waits q = by_bool (λ b. cond b (Some key.moment) (waits (kept.came q)) ≡ waits (cond b (Some (new_arrival user key.moment)) (kept.came q))) (same_sight q s.id) (λ e. refl) (λ e. refl) ∙ ap waits (sym (came_now q))

    pub tidy_came : IsTidy pair (place + 1) (after_it terms place kept (Came s user key))
    tidy_came = record { client = tidy.client; listen = tidy.listen; below = λ t g e. let lt = tidy.below t g e in omega (arith, lt); apart = tidy.apart; named = tidy.named }

    pub fresh_came : (event : Happening) → PlaceApart (Came s user key) event → IsFresh kept event → IsFresh (after_it terms place kept (Came s user key)) event
    fresh_came (Came t other k) ne f = came_now t.id ∙ cond-false (same_sight t.id s.id) (Some (new_arrival user key.moment)) (kept.came t.id) (sight_apart t.id s.id (λ h. ne (sym h))) ∙ f
    fresh_came (Acted b m k) ne f = tt
    fresh_came (Went t k) ne f = f

  -- ---- a departure
  module _ (s : Sighting) (key : Key) (g : Departure) (there : kept.gave s.id ≡ Some g) where
    owed_now : (p : ℕ) → (after_it terms place kept (Went s key)).owed p ≡ cond (nat_eq p g.place) None (kept.owed p)
    owed_now p = ap (λ (o : Option Departure). owed_without kept.owed o p) there

    left_other : (q : SightId) → q ≢ s.id → owes (after_it terms place kept (Went s key)).owed (kept.gave q) ≡ owes kept.owed (kept.gave q)
    left_other q ne = by_option (owes (after_it terms place kept (Went s key)).owed (kept.gave q) ≡ owes kept.owed (kept.gave q)) (kept.gave q)
        (λ e. ap (owes (after_it terms place kept (Went s key)).owed) e ∙ sym (ap (owes kept.owed) e))
        (λ h e. ap (owes (after_it terms place kept (Went s key)).owed) e
        ∙ ap (owes_by h.arrived) (owed_now h.place ∙ cond-false (nat_eq h.place g.place) None (kept.owed h.place) (ne_eqb h.place g.place (λ k. ne (tidy.apart q s.id h g e there k))))
        ∙ sym (ap (owes kept.owed) e))

    pub went_owes : (q : SightId) → cond (same_sight q s.id) None (owes kept.owed (kept.gave q)) ≡ owes (after_it terms place kept (Went s key)).owed (kept.gave q)
    went_owes q = by_bool (λ b. same_sight q s.id ≡ b → cond b None (owes kept.owed (kept.gave q)) ≡ owes (after_it terms place kept (Went s key)).owed (kept.gave q)) (same_sight q s.id)
        (λ e h. sym (ap (owes (after_it terms place kept (Went s key)).owed) (ap kept.gave (sight_true q s.id h) ∙ there) ∙ ap (owes_by g.arrived) (owed_now g.place ∙ cond-true (nat_eq g.place g.place) None (kept.owed g.place) (eq-eqb g.place g.place refl))))
        (λ e h. sym (left_other q (sight_false q s.id h))) refl

    pub tidy_went : IsTidy pair (place + 1) (after_it terms place kept (Went s key))
    tidy_went = record {
      client = tidy.client;
      listen = tidy.listen;
      below = λ t h e. let lt = tidy.below t h e in omega (arith, lt);
      apart = tidy.apart;
      named = λ p o e. tidy.named p o (by_bool (λ b. cond b None (kept.owed p) ≡ Some o → kept.owed p ≡ Some o) (nat_eq p g.place) (λ k h. absurd (not_some o h)) (λ k h. h) (sym (owed_now p) ∙ e));
    }

    pub fresh_went : (event : Happening) → PlaceApart (Went s key) event → IsFresh kept event → IsFresh (after_it terms place kept (Went s key)) event
    fresh_went (Came t other k) ne f = f
    fresh_went (Acted b m k) ne f = tt
    fresh_went (Went t k) ne f = left_other t.id (λ h. ne (sym h)) ∙ f
