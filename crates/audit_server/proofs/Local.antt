-- What one lane sees of the server is what its own steps make.
use Rattle.std.proofs.Common.{◌≡◌, ◌≢◌, ℕ, true, false, Option, Some, None, List, [], ◌∷◌, cond, refl, sym, ◌∙◌, ap, ◌==◌}
use Rattle.std.proofs.lemmas.Bool.{eqb-true, eqb-false, cond-false}
use Rattle.audit_model.specs.declared.sighting.SightId.{SightId}
use Rattle.audit_model.proofs.Sames.{sight_apart, client_apart}
use Rattle.audit_model.specs.Sames.{same_sight, same_client}
use Rattle.audit_model.specs.declared.pair.Pair.{Pair}
use Rattle.audit_server.specs.Homes.{NamesAtHome, StandAtHome, IsOfPair, AreOfPairs, AreDistinct}
use Rattle.audit_server.specs.Placed.{Placed, step_of, led, of_lane}
use Rattle.audit_server.specs.Rules.{Rules}
use Rattle.audit_server.specs.State.{State, after, put, acted}
use Rattle.audit_server.specs.Step.{Move, In, Act, Out}

-- what is put at one place leaves each other place
pub put_sight : {A : Type 0} (f : SightId → A) (k : SightId) (x : A) (i : SightId) → i ≢ k → put same_sight f k x i ≡ f i
put_sight f k x i ne = cond-false (same_sight i k) x (f i) (sight_apart i k ne)

pub put_client : {A : Type 0} (f : Pair → A) (k : Pair) (x : A) (i : Pair) → i ≢ k → put same_client f k x i ≡ f i
put_client f k x i ne = cond-false (same_client i k) x (f i) (client_apart i k ne)

-- the lane's state is the server's as far as the lane's pair and its sightings go
pub record Agree (home : SightId → ℕ) (lane : ℕ) (pair : Option Pair) (st own : State) : Type 0 where
  pub table : (c : Pair) → pair ≡ Some c → st.table c ≡ own.table c
  pub waiting : (s : SightId) → home s ≡ lane → st.waiting s ≡ own.waiting s
  pub owed : (t : SightId) → home t ≡ lane → st.owed t ≡ own.owed t
  pub sent : (t : SightId) → home t ≡ lane → st.sent t ≡ own.sent t

-- an act is of this pair
abbrev pub ActsOn : Option Pair → Move → Type 0
ActsOn pair move = (c : Pair) (s t : SightId) → move ≡ Act c s t → pair ≡ Some c

module _ (w : Rules) (home : SightId → ℕ) (lane : ℕ) (pair : Option Pair) where
  pub same_step : (st own : State) (moment : ℕ) (move : Move) → Agree home lane pair st own → NamesAtHome home lane move → ActsOn pair move →
      Agree home lane pair (after w st (record { moment = moment; move = move })) (after w own (record { moment = moment; move = move }))
  same_step st own moment (In s) a n p = record {
    table = a.table;
    waiting = λ q h. ap (λ y. cond (same_sight q s) (Some moment) y) (a.waiting q h);
    owed = a.owed;
    sent = a.sent;
  }
  same_step st own moment (Act d s t) a n p = record {
    table = λ c h. ap (λ y. cond (same_client c d) (acted w moment (Act d s t) y) (st.table c)) (a.table d (p d s t refl)) ∙ ap (λ y. cond (same_client c d) (acted w moment (Act d s t) (own.table d)) y) (a.table c h);
    waiting = λ q h. ap (λ y. cond (same_sight q s) None y) (a.waiting q h);
    owed = λ q h. ap (λ y. cond (same_sight q t) y (st.owed q)) (a.waiting s n.0) ∙ ap (λ y. cond (same_sight q t) (own.waiting s) y) (a.owed q h);
    sent = λ q h. ap (λ y. cond (same_sight q t) true y) (a.sent q h);
  }
  same_step st own moment (Out t) a n p = record {
    table = a.table;
    waiting = a.waiting;
    owed = λ q h. ap (λ y. cond (same_sight q t) None y) (a.owed q h);
    sent = a.sent;
  }

  apart : (other : ℕ) (s q : SightId) → other ≢ lane → home s ≡ other → home q ≡ lane → q ≢ s
  apart other s q ne n h e = ne (sym n ∙ ap home (sym e) ∙ h)

  pub other_step : (st own : State) (other moment : ℕ) (move : Move) → Agree home lane pair st own → other ≢ lane → NamesAtHome home other move →
      ((c : Pair) (s t : SightId) → move ≡ Act c s t → pair ≢ Some c) →
      Agree home lane pair (after w st (record { moment = moment; move = move })) own
  other_step st own other moment (In s) a ne n p = record {
    table = a.table;
    waiting = λ q h. put_sight st.waiting s (Some moment) q (apart other s q ne n h) ∙ a.waiting q h;
    owed = a.owed;
    sent = a.sent;
  }
  other_step st own other moment (Act d s t) a ne n p = record {
    table = λ c h. put_client st.table d (acted w moment (Act d s t) (st.table d)) c (λ e. p d s t refl (h ∙ ap Some e)) ∙ a.table c h;
    waiting = λ q h. put_sight st.waiting s None q (apart other s q ne n.0 h) ∙ a.waiting q h;
    owed = λ q h. put_sight st.owed t (st.waiting s) q (apart other t q ne n.1 h) ∙ a.owed q h;
    sent = λ q h. put_sight st.sent t true q (apart other t q ne n.1 h) ∙ a.sent q h;
  }
  other_step st own other moment (Out t) a ne n p = record {
    table = a.table;
    waiting = a.waiting;
    owed = λ q h. put_sight st.owed t None q (apart other t q ne n h) ∙ a.owed q h;
    sent = a.sent;
  }

pub act_pair : (pairs : ℕ → Option Pair) (lane : ℕ) (move : Move) → IsOfPair pairs lane move → ActsOn (pairs lane) move
act_pair pairs lane (In a) h c s t e = absurd (let k : In a ≡ Act c s t = e in cc)
act_pair pairs lane (Act d a b) h c s t e = h ∙ ap Some (let i : d ≡ c = cc in i)
act_pair pairs lane (Out a) h c s t e = absurd (let k : Out a ≡ Act c s t = e in cc)

-- on each pair, and on each of its sightings, the server's state is the lane's own
pub agree_all : (w : Rules) (home : SightId → ℕ) (pairs : ℕ → Option Pair) (lane : ℕ) → AreDistinct pairs →
    (steps : List Placed) (st own : State) → StandAtHome home steps → AreOfPairs pairs steps → Agree home lane (pairs lane) st own →
    Agree home lane (pairs lane) (led w st steps) (led w own (of_lane lane steps))
agree_all w home pairs lane distinct [] st own n p a = a
agree_all w home pairs lane distinct (e ∷ es) st own n p a =
    elim (e.at.lane == lane) as (λ b. (e.at.lane == lane) ≡ b → Agree home lane (pairs lane) (led w (after w st (step_of e)) es) (led w own (cond b (e ∷ of_lane lane es) (of_lane lane es)))) [
      | true ↦ λ q.
          let here : e.at.lane ≡ lane = eqb-true e.at.lane lane q in
          agree_all w home pairs lane distinct es (after w st (step_of e)) (after w own (step_of e)) n.1 p.1
          (same_step w home lane (pairs lane) st own e.at.key.moment e.move a (rw here at n.0) (act_pair pairs lane e.move (rw here at p.0)))
      | false ↦ λ q.
          let there : e.at.lane ≢ lane = eqb-false e.at.lane lane q in
          agree_all w home pairs lane distinct es (after w st (step_of e)) own n.1 p.1
          (other_step w home lane (pairs lane) st own e.at.lane e.at.key.moment e.move a there n.0
          (λ c s t m h. there (distinct e.at.lane lane c (act_pair pairs e.at.lane e.move p.0 c s t m) h)))
    ] refl
