-- The certificate that is written for a list of moves, and the lanes that it has.
use Rattle.audit_model.specs.declared.event.Event.TheVariants as events
use Rattle.std.proofs.Common.{◌≡◌, ◌≢◌, ◌≤◌, ◌<◌, ◌+◌, ◌⊎◌, inl, inr, ℕ, suc, Bool, true, false, ◌||◌, Option, Some, None, List, [], ◌∷◌, ◌++◌, cond, refl, sym, ◌∙◌, ap, subst, arith, ◌==◌, map, length, append_assoc}
use Rattle.std.specs.List.{fold, AllByRecursion, slice_get, IsDistinct, list_any}
use Rattle.std.specs.List.Sorted.{IsStrictlySortedBy}
use Rattle.std.specs.declared.cmp.Ordering.TheVariants.{Less}
use Rattle.std.proofs.lemmas.Bool.{eqb-true, eqb-false, eq-eqb, ne_eqb, cases_eq, cases_lt, true≢false, cond-true, cond-false}
use Rattle.std.proofs.lemmas.Bool.Decides.{nat_tests}
use Rattle.std.proofs.lemmas.List.{append-nil}
use Rattle.std.proofs.lemmas.List.Kept.{IsStrictlySortedBy-filter}
use Rattle.std.proofs.lemmas.Option.{same_Some}
use Rattle.audit_model.specs.declared.certificate.CertLane.{CertLane}
use Rattle.audit_model.specs.declared.certificate.CertDrop.{CertDrop}
use Rattle.audit_model.specs.declared.event.At.{At}
use Rattle.audit_model.specs.declared.event.Event.{Event}
use Rattle.audit_model.specs.declared.event.Key.{Key}
use Rattle.audit_model.specs.declared.sighting.SightId.{SightId}
use Rattle.audit_model.specs.Breach.{key_cmp}
use Rattle.audit_model.specs.Event.{key_of}
use Rattle.audit_model.specs.Lanes.{same_lane}
use Rattle.audit_placement.specs.Entries.{entry_of, entries_from, arrival_of}
use Rattle.audit_server.specs.Step.{Step, Move, In, Act, Out}
use Rattle.audit_server.specs.Rules.{Rules}
use Rattle.audit_model.specs.declared.pair.Pair.{Pair}
use Rattle.audit_server.specs.State.{State, at_first, after}
use Rattle.audit_server.specs.Run.{Allowed, RunFrom, IsRun}
use Rattle.audit_model.specs.Sames.{same_client}
use Rattle.audit_server.specs.Placed.{at_cmp, Placed, step_of, of_lane, Rises}
use Rattle.audit_server.specs.Holding.{AnyOf}
use Rattle.audit_server.specs.Homes.{NamesAtHome}
use Rattle.audit_server.specs.Glued.{Numbered, joined, sorted}
use Rattle.audit_server.specs.Placing.{times_placed, Follow, KeepOrder, KeyFollows}
use Rattle.audit_server.specs.Acting.{acting, with_pair, pairs_by, acting_pairs}
use Rattle.audit_model.proofs.Sames.{client_true, client_same}
use Rattle.audit_server.proofs.Orders.{all_append, all_filter, all_weaker}
use Rattle.audit_server.proofs.Whole.{lane_append, lane_is, OnlyOf}
use Rattle.audit_server.proofs.Sorting.{of_lane_sorted, rises_sorted, apart_joined, all_lane, none_of_lane, all_from}
use Rattle.audit_server.proofs.Meeting.{all_two}
use Rattle.audit_server.proofs.Unique.{unique}
use Rattle.audit_server.proofs.Once.{named, splits_all, not_none, gave}
use Rattle.audit_whole.specs.Glued.{placed_of, lanes_from, pair_of_lane}

-- ---- the certificate

abbrev pub place_of : Pair → List Pair → ℕ
place_of p [] = 0
place_of p (q ∷ qs) = cond (same_client p q) 0 (suc (place_of p qs))

abbrev pub lane_at : List Pair → Option Pair → ℕ
lane_at ps None = length ps
lane_at ps (Some p) = place_of p ps

abbrev pub home_in : List Step → SightId → ℕ
home_in steps x = lane_at (acting_pairs steps) (acting x steps)

abbrev pub lane_of_move : List Step → Move → ℕ
lane_of_move steps (In s) = home_in steps s
lane_of_move steps (Act c s t) = place_of c (acting_pairs steps)
lane_of_move steps (Out t) = home_in steps t

-- each step with its place in the list as its tie
abbrev pub tagged : (Move → ℕ) → ℕ → List Step → List Placed
tagged lane n [] = []
tagged lane n (e ∷ es) = record { at = record { key = record { moment = e.moment; tie = n }; lane = lane e.move; place = 0 }; move = e.move } ∷ tagged lane (n + 1) es

abbrev pub at_place : ℕ → Placed → Placed
at_place n e = record { at = record { key = e.at.key; lane = e.at.lane; place = n }; move = e.move }

abbrev pub bump : (ℕ → ℕ) → ℕ → ℕ → ℕ
bump f i j = cond (j == i) (f j + 1) (f j)

-- and with its place in its lane
abbrev pub placing : (ℕ → ℕ) → List Placed → List Placed
placing f [] = []
placing f (e ∷ es) = at_place (f e.at.lane) e ∷ placing (bump f e.at.lane) es

abbrev pub count_from : ℕ → List Placed → List Placed
count_from n [] = []
count_from n (e ∷ es) = at_place n e ∷ count_from (n + 1) es

abbrev pub event_by : Key → Move → Event
event_by key (In s) = events.In s key
event_by key (Act c s t) = events.Act s t key
event_by key (Out t) = events.Out t key

abbrev pub event_of : Placed → Event
event_of e = event_by e.at.key e.move

abbrev pub arrival : Move → SightId
arrival (In s) = s
arrival (Act c s t) = s
arrival (Out t) = t

abbrev pub drop_of : Placed → CertDrop
drop_of e = record { sight = arrival e.move; key = e.at.key }

abbrev pub cert_lanes : ℕ → List Pair → List Placed → List CertLane
cert_lanes n [] es = []
cert_lanes n (p ∷ ps) es = record { events = map event_of (of_lane n es); client = p.client; listen = p.listen } ∷ cert_lanes (n + 1) ps es

-- ---- pairs

absent : (p : Pair) (ps : List Pair) → list_any (λ q. same_client p q) ps ≡ false → AllByRecursion (λ y. same_client p y ≡ false) ps
absent p [] h = tt
absent p (q ∷ qs) h = elim (same_client p q) as (λ b. (b || list_any (λ y. same_client p y) qs) ≡ false → (b ≡ false) × AllByRecursion (λ y. same_client p y ≡ false) qs) [
  | true ↦ λ k. absurd (true≢false k)
  | false ↦ λ k. (refl, absent p qs k)
] h

distinct_with : (p : Pair) (ps : List Pair) → IsDistinct same_client ps → IsDistinct same_client (with_pair p ps)
unfolding IsDistinct
distinct_with p ps d = elim (list_any (λ q. same_client p q) ps) as (λ b. list_any (λ q. same_client p q) ps ≡ b → IsDistinct same_client (cond b ps (p ∷ ps))) [ true ↦ λ e. d | false ↦ λ e. (absent p ps e, d) ] refl

distinct_by : (m : Move) (ps : List Pair) → IsDistinct same_client ps → IsDistinct same_client (pairs_by m ps)
distinct_by (In s) ps d = d
distinct_by (Act c s t) ps d = distinct_with c ps d
distinct_by (Out t) ps d = d

pub distinct_acting : (es : List Step) → IsDistinct same_client (acting_pairs es)
unfolding IsDistinct
distinct_acting [] = tt
distinct_acting (e ∷ es) = distinct_by e.move (acting_pairs es) (distinct_acting es)

or_true : (b : Bool) → (b || true) ≡ true
or_true true = refl
or_true false = refl

there_with : (p : Pair) (ps : List Pair) → list_any (λ q. same_client p q) (with_pair p ps) ≡ true
there_with p ps = elim (list_any (λ q. same_client p q) ps) as (λ b. list_any (λ q. same_client p q) ps ≡ b → list_any (λ q. same_client p q) (cond b ps (p ∷ ps)) ≡ true) [ true ↦ λ e. e | false ↦ λ e. ap (λ b. b || list_any (λ q. same_client p q) ps) (client_same p p refl) ] refl

there_more : (p : Pair) (m : Move) (ps : List Pair) → list_any (λ q. same_client p q) ps ≡ true → list_any (λ q. same_client p q) (pairs_by m ps) ≡ true
there_more p (In s) ps h = h
there_more p (Act c s t) ps h = elim (list_any (λ q. same_client c q) ps) as (λ b. list_any (λ q. same_client p q) (cond b ps (c ∷ ps)) ≡ true) [ true ↦ h | false ↦ ap (λ b. same_client p c || b) h ∙ or_true (same_client p c) ]
there_more p (Out t) ps h = h

there : (p : List Step) (a : Step) (q : List Step) (c : Pair) (s t : SightId) → a.move ≡ Act c s t → list_any (λ y. same_client c y) (acting_pairs (p ++ a ∷ q)) ≡ true
there [] a q c s t is = subst (λ (m : Move). list_any (λ y. same_client c y) (pairs_by m (acting_pairs q)) ≡ true) (sym is) (there_with c (acting_pairs q))
there (e ∷ p) a q c s t is = there_more c e.move (acting_pairs (p ++ a ∷ q)) (there p a q c s t is)

pub get_place : (p : Pair) (ps : List Pair) → list_any (λ q. same_client p q) ps ≡ true → slice_get ps (place_of p ps) ≡ Some p
get_place p [] h = absurd (true≢false (sym h))
get_place p (q ∷ qs) h = elim (same_client p q) as (λ b. same_client p q ≡ b → (b || list_any (λ y. same_client p y) qs) ≡ true → slice_get (q ∷ qs) (cond b 0 (suc (place_of p qs))) ≡ Some p) [
  | true ↦ λ e k. ap Some (sym (client_true p q e))
  | false ↦ λ e k. get_place p qs k
] refl h

place_below : (p : Pair) (ps : List Pair) → list_any (λ q. same_client p q) ps ≡ true → place_of p ps < length ps
place_below p [] h = absurd (true≢false (sym h))
place_below p (q ∷ qs) h = elim (same_client p q) as (λ b. (b || list_any (λ y. same_client p y) qs) ≡ true → cond b 0 (suc (place_of p qs)) < suc (length qs)) [ true ↦ λ k. omega arith | false ↦ λ k. let i = place_below p qs k in omega arith ] h

place_le : (p : Pair) (ps : List Pair) → place_of p ps ≤ length ps
place_le p [] = omega arith
place_le p (q ∷ qs) = elim (same_client p q) as (λ b. cond b 0 (suc (place_of p qs)) ≤ suc (length qs)) [ true ↦ omega arith | false ↦ let i = place_le p qs in omega arith ]

lane_at_le : (ps : List Pair) (o : Option Pair) → lane_at ps o ≤ length ps
lane_at_le ps None = omega arith
lane_at_le ps (Some p) = place_le p ps

-- ---- the tagged list

pub tagged_plain : (lane : Move → ℕ) (n : ℕ) (es : List Step) → map step_of (tagged lane n es) ≡ es
tagged_plain lane n [] = refl
tagged_plain lane n (e ∷ es) = ap (λ xs. e ∷ xs) (tagged_plain lane (n + 1) es)

pub tagged_all : (R : ℕ → Move → Type 0) (lane : Move → ℕ) (n : ℕ) (es : List Step) → AllByRecursion (λ (e : Step). R (lane e.move) e.move) es → AllByRecursion (λ (e : Placed). R e.at.lane e.move) (tagged lane n es)
tagged_all R lane n [] h = tt
tagged_all R lane n (e ∷ es) h = (h.0, tagged_all R lane (n + 1) es h.1)

pub all_placing : (P : Placed → Type 0) → ((n : ℕ) (e : Placed) → P e → P (at_place n e)) → (f : ℕ → ℕ) (es : List Placed) → AllByRecursion P es → AllByRecursion P (placing f es)
all_placing P g f [] h = tt
all_placing P g f (e ∷ es) h = (g (f e.at.lane) e h.0, all_placing P g (bump f e.at.lane) es h.1)

pub steps_placing : (f : ℕ → ℕ) (es : List Placed) → map step_of (placing f es) ≡ map step_of es
steps_placing f [] = refl
steps_placing f (e ∷ es) = ap (λ xs. step_of e ∷ xs) (steps_placing (bump f e.at.lane) es)

pub of_placing : (i : ℕ) (f : ℕ → ℕ) (es : List Placed) → of_lane i (placing f es) ≡ count_from (f i) (of_lane i es)
of_placing i f [] = refl
of_placing i f (e ∷ es) = elim (e.at.lane == i) as (λ b. (e.at.lane == i) ≡ b → cond b (at_place (f e.at.lane) e ∷ of_lane i (placing (bump f e.at.lane) es)) (of_lane i (placing (bump f e.at.lane) es)) ≡ count_from (f i) (cond b (e ∷ of_lane i es) (of_lane i es))) [
  | true ↦ λ q.
      let is : e.at.lane ≡ i = eqb-true e.at.lane i q in
      let next : bump f e.at.lane i ≡ f i + 1 = cond-true (i == e.at.lane) (f i + 1) (f i) (eq-eqb i e.at.lane (sym is)) in
      ap (λ n. at_place n e ∷ of_lane i (placing (bump f e.at.lane) es)) (ap f is)
      ∙ ap (λ xs. at_place (f i) e ∷ xs) (of_placing i (bump f e.at.lane) es ∙ ap (λ n. count_from n (of_lane i es)) next)
  | false ↦ λ q.
      let ne : e.at.lane ≢ i = eqb-false e.at.lane i q in
      let next : bump f e.at.lane i ≡ f i = cond-false (i == e.at.lane) (f i + 1) (f i) (ne_eqb i e.at.lane (λ k. ne (sym k))) in
      of_placing i (bump f e.at.lane) es ∙ ap (λ n. count_from n (of_lane i es)) next
] refl

-- what comes later has no smaller moment and a greater tie
abbrev Later : ℕ → ℕ → Placed → Type 0
Later moment tie e = (moment ≤ e.at.key.moment) × (tie ≤ e.at.key.tie)

at_less : (a b : At) → a.key.moment ≤ b.key.moment → a.key.tie + 1 ≤ b.key.tie → at_cmp a b ≡ Less
at_less a b h k = grind (arith, nat_tests)

key_is : (a b : Key) → a.moment ≤ b.moment → a.tie + 1 ≤ b.tie → key_cmp a b ≡ Less
key_is a b h k = grind (arith, nat_tests)

all_later : (w : Rules) (lane : Move → ℕ) (n moment : ℕ) (es : List Step) (st : State) → moment ≤ st.now → RunFrom w st es → AllByRecursion (Later moment n) (tagged lane n es)
all_later w lane n moment [] st h r = tt
all_later w lane n moment (e ∷ es) st h r =
    let o : st.now ≤ e.moment = r.0.in_order in
    ((omega arith, omega arith), all_weaker (Later moment (n + 1)) (Later moment n) (λ x k. (k.0, let i = k.1 in omega arith)) (tagged lane (n + 1) es) (all_later w lane (n + 1) moment es (after w st e) (omega arith) r.1))

later_placing : (w : Rules) (lane : Move → ℕ) (n moment : ℕ) (es : List Step) (st : State) (f : ℕ → ℕ) → moment ≤ st.now → RunFrom w st es → AllByRecursion (Later moment n) (placing f (tagged lane n es))
later_placing w lane n moment es st f h r = all_placing (Later moment n) (λ m e k. k) f (tagged lane n es) (all_later w lane n moment es st h r)

pub placing_rises : (w : Rules) (lane : Move → ℕ) (n : ℕ) (es : List Step) (st : State) (f : ℕ → ℕ) → RunFrom w st es → Rises (placing f (tagged lane n es))
unfolding IsStrictlySortedBy
placing_rises w lane n [] st f r = tt
placing_rises w lane n (e ∷ es) st f r =
    let here : At = record { key = record { moment = e.moment; tie = n }; lane = lane e.move; place = f (lane e.move) } in (
      all_weaker (Later e.moment (n + 1)) (λ (x : Placed). at_cmp here x.at ≡ Less) (λ x k. at_less here x.at k.0 k.1) (placing (bump f (lane e.move)) (tagged lane (n + 1) es)) (later_placing w lane (n + 1) e.moment es (after w st e) (bump f (lane e.move)) (omega arith) r.1),
      placing_rises w lane (n + 1) es (after w st e) (bump f (lane e.move)) r.1,
    )

-- ---- keys along interfaces

abbrev pub Both : {A : Type 0} → (A → A → Type 0) → List A → Type 0
Both P [] = Unit {0}
Both P (x ∷ xs) = AllByRecursion (λ y. P x y × P y x) xs × Both P xs

both_head : {A : Type 0} (P : A → A → Type 0) (x : A) (ys xs : List A) → AllByRecursion (λ y. P y x) xs → AllByRecursion (λ y. AllByRecursion (P y) ys) xs → AllByRecursion (λ y. AllByRecursion (P y) (x ∷ ys)) xs
both_head P x ys [] h k = tt
both_head P x ys (z ∷ zs) h k = ((h.0, k.0), both_head P x ys zs h.1 k.1)

pub both_all : {A : Type 0} (P : A → A → Type 0) → ((x : A) → P x x) → (xs : List A) → Both P xs → AllByRecursion (λ x. AllByRecursion (P x) xs) xs
both_all P diag [] b = tt
both_all P diag (x ∷ xs) b = (
  (diag x, all_weaker (λ y. P x y × P y x) (P x) (λ y k. k.0) xs b.0),
  both_head P x xs xs (all_weaker (λ y. P x y × P y x) (λ y. P y x) (λ y k. k.1) xs b.0) (both_all P diag xs b.1),
)

pub follow_diag : (x : Placed) → KeyFollows x x
follow_diag x s t ps pt i l = let e : s ≡ t = same_Some s t (sym ps ∙ pt) in absurd (let k : s.index ≡ t.index = ap (λ (y : SightId). y.index) e in omega arith)

-- d before e in the list
follow_pair : (d e : Placed) → Later d.at.key.moment (d.at.key.tie + 1) e → Follow d.move e.move → KeyFollows d e × KeyFollows e d
follow_pair d e l f = (
  (λ s t ps pt i k. key_is d.at.key e.at.key l.0 l.1),
  (λ s t ps pt i k. let m : t.index < s.index = f t s pt ps (sym i) in absurd (omega arith)),
)

pub follow_both : (w : Rules) (lane : Move → ℕ) (n : ℕ) (es : List Step) (st : State) (f : ℕ → ℕ) → RunFrom w st es → KeepOrder es → Both KeyFollows (placing f (tagged lane n es))
follow_both w lane n [] st f r k = tt
follow_both w lane n (e ∷ es) st f r k =
    let here : Placed = record { at = record { key = record { moment = e.moment; tie = n }; lane = lane e.move; place = f (lane e.move) }; move = e.move } in
    let g : ℕ → ℕ = bump f (lane e.move) in (
      all_two (Later e.moment (n + 1)) (λ (x : Placed). Follow e.move x.move) (λ (x : Placed). KeyFollows here x × KeyFollows x here) (λ x l h. follow_pair here x l h)
          (placing g (tagged lane (n + 1) es)) (later_placing w lane (n + 1) e.moment es (after w st e) g (omega arith) r.1)
          (all_placing (λ (x : Placed). Follow e.move x.move) (λ m x h. h) g (tagged lane (n + 1) es) (tagged_all (λ _ m. Follow e.move m) lane (n + 1) es k.0)),
      follow_both w lane (n + 1) es (after w st e) g r.1 k.1,
    )

-- ---- what stands in which lane

pub split_of_run_steps : (w : Rules) (p : List Step) (e : Step) (q : List Step) (st : State) → RunFrom w st (p ++ e ∷ q) → Allowed w (fold (after w) st p) e
split_of_run_steps w [] e q st r = r.0
split_of_run_steps w (d ∷ p) e q st r = split_of_run_steps w p e q (after w st d) r.1

pub any_split : {A : Type 0} (P : A → Type 0) (xs : List A) → AnyOf P xs → (p : List A) × (x : A) × (q : List A) × (p ++ x ∷ q ≡ xs) × P x
any_split P [] h = absurd h
any_split P (x ∷ xs) (inl h) = ([], x, xs, refl, h)
any_split P (x ∷ xs) (inr h) = let r = any_split P xs h in (x ∷ r.0, r.1, r.2, ap (λ ys. x ∷ ys) r.3, r.4)

module _ (w : Rules) (steps : List Step) (run : IsRun w steps) (once : (s : SightId) → times_placed s steps ≤ 1) where
  pub named_at : (p : List Step) (a : Step) (q : List Step) → p ++ a ∷ q ≡ steps → (c : Pair) (s t x : SightId) → a.move ≡ Act c s t → (x ≡ s) ⊎ (x ≡ t) → acting x steps ≡ Some c
  named_at p a q h c s t x is xs = subst (λ (l : List Step). acting x l ≡ Some c) h
      (named w p a q (subst (IsRun w) (sym h) run) (subst (λ (l : List Step). (y : SightId) → times_placed y l ≤ 1) (sym h) once) c s t x is xs)

  pub there_at : (p : List Step) (a : Step) (q : List Step) → p ++ a ∷ q ≡ steps → (c : Pair) (s t : SightId) → a.move ≡ Act c s t → list_any (λ y. same_client c y) (acting_pairs steps) ≡ true
  there_at p a q h c s t is = subst (λ (l : List Step). list_any (λ y. same_client c y) (acting_pairs l) ≡ true) h (there p a q c s t is)

  abbrev pub Fine : ℕ → Move → Type 0
  Fine lane m = NamesAtHome (home_in steps) lane m × ((c : Pair) (s t : SightId) → m ≡ Act c s t → slice_get (acting_pairs steps) lane ≡ Some c) × (lane ≤ length (acting_pairs steps)) × ((lane < length (acting_pairs steps)) ⊎ (In (arrival m) ≡ m))

  -- a departure was given by an act
  pub gave_at : (p : List Step) (e : Step) (q : List Step) → p ++ e ∷ q ≡ steps → (t : SightId) → e.move ≡ Out t → (c : Pair) × (s : SightId) × (p1 : List Step) × (a : Step) × (q1 : List Step) × (p1 ++ a ∷ q1 ≡ steps) × (a.move ≡ Act c s t)
  gave_at p e q h t is =
      let a : Allowed w (fold (after w) at_first p) e = split_of_run_steps w p e q at_first (subst (λ (l : List Step). RunFrom w at_first l) (sym h) run.runs) in
      let r = any_split (λ (d : Step). (c : Pair) × (s : SightId) × (d.move ≡ Act c s t)) p (gave w t p at_first refl (not_none w _ e.moment (rw is at a.may))) in
      (r.4.0, r.4.1, r.0, r.1, r.2 ++ e ∷ q, sym (append_assoc r.0 (r.1 ∷ r.2) (e ∷ q)) ∙ ap (λ l. l ++ e ∷ q) r.3 ∙ h, r.4.2)

  out_below : (p : List Step) (e : Step) (q : List Step) → p ++ e ∷ q ≡ steps → (t : SightId) → e.move ≡ Out t → home_in steps t < length (acting_pairs steps)
  out_below p e q h t is =
      let g = gave_at p e q h t is in
      subst (λ (x : Option Pair). lane_at (acting_pairs steps) x < length (acting_pairs steps)) (sym (named_at g.2 g.3 g.4 g.5 g.0 g.1 t t g.6 (inr refl))) (place_below g.0 (acting_pairs steps) (there_at g.2 g.3 g.4 g.5 g.0 g.1 t g.6))

  fine_at : (p : List Step) (e : Step) (q : List Step) → p ++ e ∷ q ≡ steps → (m : Move) → e.move ≡ m → Fine (lane_of_move steps m) m
  fine_at p e q h (In s) is = (refl, (λ d x y k. absurd (let z : In s ≡ Act d x y = k in cc)), lane_at_le (acting_pairs steps) (acting s steps), inr refl)
  fine_at p e q h (Act c s t) is = (
    (ap (lane_at (acting_pairs steps)) (named_at p e q h c s t s is (inl refl)), ap (lane_at (acting_pairs steps)) (named_at p e q h c s t t is (inr refl))),
    (λ d x y k. get_place c (acting_pairs steps) (there_at p e q h c s t is) ∙ ap Some (let i : c ≡ d = let z : Act c s t ≡ Act d x y = k in cc in i)),
    place_le c (acting_pairs steps),
    inl (place_below c (acting_pairs steps) (there_at p e q h c s t is)),
  )
  fine_at p e q h (Out t) is = (refl, (λ d x y k. absurd (let z : Out t ≡ Act d x y = k in cc)), lane_at_le (acting_pairs steps) (acting t steps), inl (out_below p e q h t is))

  pub fine : AllByRecursion (λ (e : Placed). Fine e.at.lane e.move) (tagged (lane_of_move steps) 0 steps)
  fine = tagged_all Fine (lane_of_move steps) 0 steps (splits_all (λ (e : Step). Fine (lane_of_move steps e.move) e.move) steps (λ p e q h. fine_at p e q h e.move refl))

-- ---- the certificate's lists are the lanes of the placed list

abbrev pub parts : ℕ → List Pair → List Placed → List (List Placed)
parts n [] es = of_lane n es ∷ []
parts n (p ∷ ps) es = of_lane n es ∷ parts (n + 1) ps es

back_one : (p : Pair) (n place : ℕ) (last : Option Key) (key : Key) (lane : ℕ) (m : Move) → lane ≡ n → OnlyOf p m →
    placed_of (entry_of (Some p) n place last (event_by key m)) ≡ record { at = record { key = key; lane = lane; place = place }; move = m }
back_one p n place last key lane (In s) h o = ap (λ l. record { at = record { key = key; lane = l; place = place }; move = In s }) (sym h)
back_one p n place last key lane (Act c s t) h o = ap (λ l. record { at = record { key = key; lane = l; place = place }; move = Act p s t }) (sym h) ∙ ap (λ d. record { at = record { key = key; lane = lane; place = place }; move = Act d s t }) (sym (o c s t refl))
back_one p n place last key lane (Out t) h o = ap (λ l. record { at = record { key = key; lane = l; place = place }; move = Out t }) (sym h)

back_in : (p : Pair) (n place : ℕ) (last : Option Key) (xs : List Placed) → AllByRecursion (λ (e : Placed). e.at.lane ≡ n) xs → AllByRecursion (λ (e : Placed). OnlyOf p e.move) xs →
    map placed_of (entries_from (Some p) n place last (map event_of xs)) ≡ count_from place xs
back_in p n place last [] h o = refl
back_in p n place last (e ∷ xs) h o =
    ap (λ (y : Placed). y ∷ map placed_of (entries_from (Some p) n (place + 1) (Some (key_here e.at.key e.move)) (map event_of xs))) (back_one p n place last e.at.key e.at.lane e.move h.0 o.0)
    ∙ ap (λ ys. at_place place e ∷ ys) (back_in p n (place + 1) (Some (key_here e.at.key e.move)) xs h.1 o.1) where
      key_here : Key → Move → Key
      key_here key m = key_of (event_by key m)

back_drop : (n place : ℕ) (last : Option Key) (xs : List Placed) → AllByRecursion (λ (e : Placed). e.at.lane ≡ n) xs → AllByRecursion (λ (e : Placed). In (arrival e.move) ≡ e.move) xs →
    map placed_of (entries_from None n place last (map arrival_of (map drop_of xs))) ≡ count_from place xs
back_drop n place last [] h k = refl
back_drop n place last (e ∷ xs) h k =
    ap (λ (l : ℕ). record { at = record { key = e.at.key; lane = l; place = place }; move = In (arrival e.move) } ∷ map placed_of (entries_from None n (place + 1) (Some e.at.key) (map arrival_of (map drop_of xs)))) (sym h.0)
    ∙ ap (λ (m : Move). record { at = record { key = e.at.key; lane = e.at.lane; place = place }; move = m } ∷ map placed_of (entries_from None n (place + 1) (Some e.at.key) (map arrival_of (map drop_of xs)))) k.0
    ∙ ap (λ ys. at_place place e ∷ ys) (back_drop n (place + 1) (Some e.at.key) xs h.1 k.1)

pub lists_are : (es : List Placed) (last : ℕ) → AllByRecursion (λ (e : Placed). In (arrival e.move) ≡ e.move) (of_lane last es) → (ps : List Pair) (n : ℕ) → last ≡ n + length ps →
    ((i : ℕ) (p : Pair) → slice_get ps i ≡ Some p → AllByRecursion (λ (e : Placed). OnlyOf p e.move) (of_lane (n + i) es)) →
    lanes_from n (cert_lanes n ps es) ++ map placed_of (entries_from None last 0 None (map arrival_of (map drop_of (of_lane last es)))) ∷ [] ≡ parts n ps (placing (λ _. 0) es)
lists_are es last ins [] n h o =
    let e : last ≡ n = omega arith in
    ap (λ xs. xs ∷ []) (back_drop last 0 None (of_lane last es) (lane_is last es) ins ∙ ap (λ m. count_from 0 (of_lane m es)) e ∙ sym (of_placing n (λ _. 0) es))
lists_are es last ins (p ∷ ps) n h o =
    ap (λ xs. xs ∷ (lanes_from (n + 1) (cert_lanes (n + 1) ps es) ++ map placed_of (entries_from None last 0 None (map arrival_of (map drop_of (of_lane last es)))) ∷ []))
    (back_in p n 0 None (of_lane n es) (lane_is n es) (subst (λ (m : ℕ). AllByRecursion (λ (e : Placed). OnlyOf p e.move) (of_lane m es)) (omega arith) (o 0 p refl)) ∙ sym (of_placing n (λ _. 0) es))
    ∙ ap (λ xss. of_lane n (placing (λ _. 0) es) ∷ xss) (lists_are es last ins ps (n + 1) (omega arith) (λ i q k. subst (λ (m : ℕ). AllByRecursion (λ (e : Placed). OnlyOf q e.move) (of_lane m es)) (omega arith) (o (suc i) q k)))

parts_numbered : (n : ℕ) (ps : List Pair) (es : List Placed) → Numbered n (parts n ps es)
parts_numbered n [] es = (lane_is n es, tt)
parts_numbered n (p ∷ ps) es = (lane_is n es, parts_numbered (n + 1) ps es)

parts_each : (P : List Placed → Type 0) (n : ℕ) (ps : List Pair) (es : List Placed) → ((i : ℕ) → P (of_lane i es)) → AllByRecursion P (parts n ps es)
parts_each P n [] es f = (f n, tt)
parts_each P n (p ∷ ps) es f = (f n, parts_each P (n + 1) ps es f)

parts_all : (P : Placed → Type 0) (n : ℕ) (ps : List Pair) (es : List Placed) → AllByRecursion P es → AllByRecursion P (joined (parts n ps es))
parts_all P n [] es h = all_append P (of_lane n es) [] (all_filter P (λ e. e.at.lane == n) es h) tt
parts_all P n (p ∷ ps) es h = all_append P (of_lane n es) (joined (parts (n + 1) ps es)) (all_filter P (λ e. e.at.lane == n) es h) (parts_all P (n + 1) ps es h)

others_none : (i n : ℕ) (es : List Placed) → i ≢ n → of_lane i (of_lane n es) ≡ []
others_none i n es ne = none_of_lane i (of_lane n es) (all_weaker (λ (e : Placed). e.at.lane ≡ n) (λ (e : Placed). e.at.lane ≢ i) (λ e k q. ne (sym q ∙ k)) (of_lane n es) (lane_is n es))

parts_lane : (i n : ℕ) (ps : List Pair) (es : List Placed) → n ≤ i → i ≤ n + length ps → of_lane i (joined (parts n ps es)) ≡ of_lane i es
parts_lane i n [] es l h =
    let e : i ≡ n = omega arith in
    ap (of_lane i) (append-nil (of_lane n es)) ∙ subst (λ (m : ℕ). of_lane i (of_lane m es) ≡ of_lane i es) e (all_lane i (of_lane i es) (lane_is i es))
parts_lane i n (p ∷ ps) es l h = lane_append i (of_lane n es) (joined (parts (n + 1) ps es)) ∙ elim (cases_eq i n) [
  | inl e ↦
      ap (λ xs. xs ++ of_lane i (joined (parts (n + 1) ps es))) (subst (λ (m : ℕ). of_lane i (of_lane m es) ≡ of_lane i es) e (all_lane i (of_lane i es) (lane_is i es)))
      ∙ ap (λ xs. of_lane i es ++ xs) (none_of_lane i (joined (parts (n + 1) ps es)) (all_weaker (λ (d : Placed). n + 1 ≤ d.at.lane) (λ (d : Placed). d.at.lane ≢ i) (λ d k q. absurd (omega arith)) (joined (parts (n + 1) ps es)) (all_from (n + 1) (parts (n + 1) ps es) (parts_numbered (n + 1) ps es))))
      ∙ append-nil (of_lane i es)
  | inr ne ↦ ap (λ xs. xs ++ of_lane i (joined (parts (n + 1) ps es))) (others_none i n es ne) ∙ parts_lane i (n + 1) ps es (omega arith) (omega arith)
]

same_parts : (ps : List Pair) (es : List Placed) → AllByRecursion (λ (e : Placed). e.at.lane ≤ length ps) es → (i : ℕ) → of_lane i (joined (parts 0 ps es)) ≡ of_lane i es
same_parts ps es h i = elim (cases_lt (length ps) i) [
  | inl past ↦
      none_of_lane i (joined (parts 0 ps es)) (all_weaker (λ (e : Placed). e.at.lane ≤ length ps) (λ (e : Placed). e.at.lane ≢ i) (λ e k q. absurd (omega arith)) (joined (parts 0 ps es)) (parts_all (λ (e : Placed). e.at.lane ≤ length ps) 0 ps es h))
      ∙ sym (none_of_lane i es (all_weaker (λ (e : Placed). e.at.lane ≤ length ps) (λ (e : Placed). e.at.lane ≢ i) (λ e k q. absurd (omega arith)) es h))
  | inr within ↦ parts_lane i 0 ps es (omega arith) (omega arith)
]

-- a rising list whose lanes are these is what is sorted of them
pub sorted_parts : (ps : List Pair) (es : List Placed) → AllByRecursion (λ (e : Placed). e.at.lane ≤ length ps) es → Rises es → AllByRecursion Rises (parts 0 ps es) × (sorted (joined (parts 0 ps es)) ≡ es)
sorted_parts ps es within up =
    let rising : (i : ℕ) → Rises (of_lane i es) = λ i. IsStrictlySortedBy-filter (λ (d e : Placed). at_cmp d.at e.at) (λ (e : Placed). e.at.lane == i) es up in
    let lane_rises : (i : ℕ) → Rises (of_lane i (joined (parts 0 ps es))) = λ i. subst Rises (sym (same_parts ps es within i)) (rising i) in
    let each : AllByRecursion Rises (parts 0 ps es) = parts_each Rises 0 ps es rising in (
      each,
      unique (sorted (joined (parts 0 ps es))) es (rises_sorted (joined (parts 0 ps es)) (apart_joined 0 (parts 0 ps es) (parts_numbered 0 ps es) each)) up
          (λ i. of_lane_sorted i (joined (parts 0 ps es)) (lane_rises i) ∙ same_parts ps es within i),
    )

pub pairs_are : (n : ℕ) (ps : List Pair) (es : List Placed) → map pair_of_lane (cert_lanes n ps es) ≡ ps
pairs_are n [] es = refl
pairs_are n (p ∷ ps) es = ap (λ xs. p ∷ xs) (pairs_are (n + 1) ps es)

apart_back : (lane : CertLane) (lanes : List CertLane) → AllByRecursion (λ c. same_client (pair_of_lane lane) c ≡ false) (map pair_of_lane lanes) → AllByRecursion (λ other. same_lane lane other ≡ false) lanes
apart_back lane [] h = tt
apart_back lane (x ∷ xs) h = (h.0, apart_back lane xs h.1)

pub distinct_back : (lanes : List CertLane) → IsDistinct same_client (map pair_of_lane lanes) → IsDistinct same_lane lanes
unfolding IsDistinct
distinct_back [] h = tt
distinct_back (lane ∷ lanes) h = (apart_back lane lanes h.0, distinct_back lanes h.1)
