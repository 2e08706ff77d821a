-- Every run that explains the captures is the glued list of a certificate that meets the lane conditions.
use Rattle.std.proofs.Common.{◌≡◌, ◌≤◌, ◌+◌, ◌⊎◌, inl, inr, ℕ, suc, true, false, ◌||◌, Option, Some, None, List, [], ◌∷◌, ◌++◌, cond, refl, sym, ◌∙◌, ap, subst, arith, map, length}
use Rattle.std.specs.List.{fold, AllByRecursion, slice_get, IsDistinct, list_any}
use Rattle.std.specs.Ordering.{is_lt}
use Rattle.std.proofs.lemmas.Option.{none-some, same_Some, slice_get_past}
use Rattle.std.proofs.lemmas.List.Sums.{sum_by-cons}
use Rattle.audit_model.specs.declared.certificate.Certificate.{Certificate}
use Rattle.audit_model.specs.declared.certificate.CertLane.{CertLane}
use Rattle.audit_model.specs.declared.event.Event.{Event}
use Rattle.audit_model.specs.declared.event.Key.{Key}
use Rattle.audit_model.specs.declared.sighting.SightId.{SightId}
use Rattle.audit_model.specs.declared.sighting.Side.TheVariants.{Arrives, Leaves}
use Rattle.audit_model.specs.declared.sighting.Sighting.{Sighting}
use Rattle.audit_model.specs.EventCount.{event_count}
use Rattle.audit_model.specs.Event.{key_of}
use Rattle.audit_model.specs.Policy.{AreApart}
use Rattle.audit_sightings.specs.Intake.{Taken, sighting_at}
use Rattle.audit_placement.specs.declared.entry.Entry.{Entry}
use Rattle.audit_model.specs.declared.pair.Pair.{Pair}
use Rattle.audit_placement.specs.Entries.{entries, entries_from, lane_entries, lanes_entries, drop_entries, arrival_of}
use Rattle.audit_server.specs.Step.{Step, Move, In, Act, Out}
use Rattle.audit_server.specs.Rules.{Rules}
use Rattle.audit_server.specs.State.{State, at_first, after}
use Rattle.audit_server.specs.Run.{MayMove, RunFrom, IsRun}
use Rattle.audit_model.specs.Sames.{same_client, same_sight}
use Rattle.audit_server.specs.Placed.{at_cmp, Placed, step_of, of_lane, Rises}
use Rattle.audit_server.specs.Holding.{AnyOf}
use Rattle.audit_server.specs.Homes.{StandAtHome, NamesAtHome, InOneLane}
use Rattle.audit_server.specs.Glued.{joined, sorted, inserted}
use Rattle.audit_server.specs.Placing.{times_placed, KeepOrder, KeyFollows, KeysFollow}
use Rattle.audit_server.specs.Acting.{acting, acting_by, acting_pairs}
use Rattle.audit_model.proofs.Sames.{sight_true}
use Rattle.audit_server.proofs.Orders.{all_append, all_weaker}
use Rattle.audit_server.proofs.Whole.{all_of_lane, OnlyOf}
use Rattle.audit_server.proofs.Sorting.{all_of_sorted}
use Rattle.audit_server.proofs.Meeting.{meet_in_lanes}
use Rattle.audit_server.proofs.Once.{splits_all, ins, outs, both_counts, in_once, out_once, leaves, given_owes, fold_cut, run_cut}
use Rattle.audit_whole.specs.Glued.{placed_of, lanes_from, by_lane, all_placed, glued, glued_steps}
use Rattle.audit_whole.proofs.Cutting.{all_free}
use Rattle.audit_whole.proofs.Listing.{joined_is}
use Rattle.audit_whole.proofs.Writing.{lane_at, home_in, lane_of_move, tagged, placing, bump, count_from, event_by, event_of, arrival, drop_of, cert_lanes, distinct_acting, get_place, tagged_plain, tagged_all, all_placing, steps_placing, of_placing, placing_rises, both_all, follow_diag, follow_both, split_of_run_steps, any_split, named_at, there_at, Fine, gave_at, fine, parts, lists_are, sorted_parts, pairs_are, distinct_back}
use Rattle.audit_rules.specs.Keys.{KeyFor}
use Rattle.audit_whole.specs.CaptureRun.{rules_for}
use Rattle.audit_whole.specs.LaneConditions.{IsAtEnds, AreAtEnds, LaneConditions}
use Rattle.audit_whole.proofs.Paths.{between_arrives, between_leaves}

module _ (taken : Taken) (apart : AreApart taken.policy) (key_for : KeyFor) where
  abbrev W : Rules
  W = rules_for taken key_for

  module _ (steps : List Step) (run : IsRun W steps) (once : (s : SightId) → times_placed s steps ≤ 1) where
    act_may : (p : List Step) (a : Step) (q : List Step) → p ++ a ∷ q ≡ steps → (c : Pair) (s t : SightId) → a.move ≡ Act c s t → (st : State) × MayMove W st a.moment (Act c s t)
    act_may p a q h c s t is =
        (fold (after W) at_first p, subst (λ (m : Move). MayMove W (fold (after W) at_first p) a.moment m) is (split_of_run_steps W p a q at_first (subst (λ (l : List Step). RunFrom W at_first l) (sym h) run.runs)).may)

    -- the act that names a sighting
    acting_found : (x : SightId) (es : List Step) (c : Pair) → acting x es ≡ Some c → AnyOf (λ (e : Step). (s : SightId) × (t : SightId) × (e.move ≡ Act c s t) × ((x ≡ s) ⊎ (x ≡ t))) es
    acting_found x [] c h = absurd (none-some c h)
    acting_found x (e ∷ es) c h = by_move e.move refl h (acting_found x es c) where
      by_move : (m : Move) → e.move ≡ m → acting_by x m (acting x es) ≡ Some c → (acting x es ≡ Some c → AnyOf (λ (e : Step). (s : SightId) × (t : SightId) × (e.move ≡ Act c s t) × ((x ≡ s) ⊎ (x ≡ t))) es) →
          AnyOf (λ (e : Step). (s : SightId) × (t : SightId) × (e.move ≡ Act c s t) × ((x ≡ s) ⊎ (x ≡ t))) (e ∷ es)
      by_move (In s) is k rest = inr (rest k)
      by_move (Act d s t) is k rest =
          elim (same_sight x s) as (λ b. same_sight x s ≡ b → cond (b || same_sight x t) (Some d) (acting x es) ≡ Some c → AnyOf (λ (e : Step). (s : SightId) × (t : SightId) × (e.move ≡ Act c s t) × ((x ≡ s) ⊎ (x ≡ t))) (e ∷ es)) [
            | true ↦ λ q j. inl (s, t, is ∙ ap (λ z. Act z s t) (same_Some d c j), inl (sight_true x s q))
            | false ↦ λ q j. elim (same_sight x t) as (λ b. same_sight x t ≡ b → cond b (Some d) (acting x es) ≡ Some c → AnyOf (λ (e : Step). (s : SightId) × (t : SightId) × (e.move ≡ Act c s t) × ((x ≡ s) ⊎ (x ≡ t))) (e ∷ es)) [
              | true ↦ λ r i. inl (s, t, is ∙ ap (λ z. Act z s t) (same_Some d c i), inr (sight_true x t r))
              | false ↦ λ r i. inr (rest i)
            ] refl j
          ] refl k
      by_move (Out t) is k rest = inr (rest k)

    -- what an act gives leaves
    leaves_out : (p : List Step) (a : Step) (q : List Step) → p ++ a ∷ q ≡ steps → (c : Pair) (s t : SightId) → a.move ≡ Act c s t → 1 ≤ outs t steps
    leaves_out p a q h c s t is =
        let r : RunFrom W at_first (p ++ a ∷ q) = subst (λ (l : List Step). RunFrom W at_first l) (sym h) run.runs in
        let from : RunFrom W (fold (after W) at_first p) (a ∷ q) = run_cut W p (a ∷ q) at_first r in
        let end : (fold (after W) (after W (fold (after W) at_first p) a) q).owed t ≡ None = subst (λ (st : State). st.owed t ≡ None) (ap (fold (after W) at_first) (sym h) ∙ fold_cut W p (a ∷ q) at_first) (run.nothing_owed t) in
        subst (λ (l : List Step). 1 ≤ outs t l) h (out_once t (p ++ a ∷ q) (any_right (λ (e : Step). e.move ≡ Out t) p (a ∷ q) (inr (leaves W t q (after W (fold (after W) at_first p) a) from.1 (given_owes W (fold (after W) at_first p) a c s t from.0 is) end)))) where
          any_right : (P : Step → Type 0) (xs ys : List Step) → AnyOf P ys → AnyOf P (xs ++ ys)
          any_right P [] ys k = k
          any_right P (x ∷ xs) ys k = inr (any_right P xs ys k)

    any_here : (m : Move) (p : List Step) (e : Step) (q : List Step) → e.move ≡ m → AnyOf (λ (d : Step). d.move ≡ m) (p ++ e ∷ q)
    any_here m [] e q is = inl is
    any_here m (d ∷ p) e q is = inr (any_here m p e q is)

    -- what comes in is an arrival of the act that names it
    in_arrives : (p : List Step) (e : Step) (q : List Step) → p ++ e ∷ q ≡ steps → (x : SightId) → e.move ≡ In x → (c : Pair) → acting x steps ≡ Some c → (y : Sighting) → sighting_at taken x ≡ Some y → IsAtEnds taken.policy c Arrives y
    in_arrives p e q h x is c acts y there =
        let r = any_split (λ (e : Step). (s : SightId) × (t : SightId) × (e.move ≡ Act c s t) × ((x ≡ s) ⊎ (x ≡ t))) steps (acting_found x steps c acts) in
        let s : SightId = r.4.0 in
        let t : SightId = r.4.1 in
        elim r.4.3 [
          | inl i ↦
              let m = act_may r.0 r.1 r.2 r.3 c s t r.4.2 in
              between_arrives taken apart key_for c r.1.moment (m.0.table c) (sighting_at taken s) (sighting_at taken t) m.1.2 y (ap (sighting_at taken) (sym i) ∙ there)
          | inr j ↦ absurd (
              let out : 1 ≤ outs x steps = subst (λ (z : SightId). 1 ≤ outs z steps) (sym j) (leaves_out r.0 r.1 r.2 r.3 c s t r.4.2) in
              let came : 1 ≤ ins x steps = subst (λ (l : List Step). 1 ≤ ins x l) h (in_once x (p ++ e ∷ q) (any_here (In x) p e q is)) in
              omega (arith, out, came, both_counts x steps, once x))
        ]

    out_leaves : (p : List Step) (e : Step) (q : List Step) → p ++ e ∷ q ≡ steps → (x : SightId) → e.move ≡ Out x → (c : Pair) → acting x steps ≡ Some c → (y : Sighting) → sighting_at taken x ≡ Some y → IsAtEnds taken.policy c Leaves y
    out_leaves p e q h x is c acts y there =
        let g = gave_at W steps run once p e q h x is in
        let same : g.0 ≡ c = same_Some g.0 c (sym (named_at W steps run once g.2 g.3 g.4 g.5 g.0 g.1 x x g.6 (inr refl)) ∙ acts) in
        let m = act_may g.2 g.3 g.4 g.5 g.0 g.1 x g.6 in
        subst (λ (d : Pair). IsAtEnds taken.policy d Leaves y) same
        (between_leaves taken apart key_for g.0 g.3.moment (m.0.table g.0) (sighting_at taken g.1) (sighting_at taken x) m.1.2 y there)

    abbrev PS : List Pair
    PS = acting_pairs steps

    -- the datagrams of a lane are its client's
    abbrev EndsFor : ℕ → Move → Type 0
    EndsFor lane (In s) = (y : Sighting) → sighting_at taken s ≡ Some y → (c : Pair) → slice_get PS lane ≡ Some c → IsAtEnds taken.policy c Arrives y
    EndsFor lane (Act c s t) = Unit {0}
    EndsFor lane (Out t) = (y : Sighting) → sighting_at taken t ≡ Some y → (c : Pair) → slice_get PS lane ≡ Some c → IsAtEnds taken.policy c Leaves y

    past_none : slice_get PS (length PS) ≡ None
    past_none = slice_get_past PS (length PS) (omega arith)

    lane_pair : (x : SightId) (o : Option Pair) → acting x steps ≡ o → (c : Pair) → slice_get PS (lane_at PS o) ≡ Some c → acting x steps ≡ Some c
    lane_pair x None h c k = absurd (none-some c (sym past_none ∙ k))
    lane_pair x (Some d) h c k =
        let r = any_split (λ (e : Step). (s : SightId) × (t : SightId) × (e.move ≡ Act d s t) × ((x ≡ s) ⊎ (x ≡ t))) steps (acting_found x steps d h) in
        let t : list_any (λ y. same_client d y) PS ≡ true = there_at W steps run once r.0 r.1 r.2 r.3 d r.4.0 r.4.1 r.4.2 in
        h ∙ ap Some (same_Some d c (sym (get_place d PS t) ∙ k))

    ends_at : (p : List Step) (e : Step) (q : List Step) → p ++ e ∷ q ≡ steps → (m : Move) → e.move ≡ m → EndsFor (lane_of_move steps m) m
    ends_at p e q h (In s) is = λ y there c k. in_arrives p e q h s is c (lane_pair s (acting s steps) refl c k) y there
    ends_at p e q h (Act c s t) is = tt
    ends_at p e q h (Out t) is = λ y there c k. out_leaves p e q h t is c (lane_pair t (acting t steps) refl c k) y there

    abbrev ES : List Placed
    ES = tagged (lane_of_move steps) 0 steps

    ends_for : AllByRecursion (λ (e : Placed). EndsFor e.at.lane e.move) ES
    ends_for = tagged_all EndsFor (lane_of_move steps) 0 steps (splits_all (λ (e : Step). EndsFor (lane_of_move steps e.move) e.move) steps (λ p e q h. ends_at p e q h e.move refl))

    -- ---- of the certificate's entries

    entry_ends : (c : Pair) (n place : ℕ) (last : Option Key) (xs : List Placed) → slice_get PS n ≡ Some c → AllByRecursion (λ (e : Placed). EndsFor n e.move) xs →
        AllByRecursion (λ (e : Entry). AreAtEnds taken e.pair e.event) (entries_from (Some c) n place last (map event_of xs))
    entry_ends c n place last [] is h = tt
    entry_ends c n place last (e ∷ xs) is h = (by_move e.at.key e.move h.0, entry_ends c n (place + 1) (Some (key_of (event_by e.at.key e.move))) xs is h.1) where
      by_move : (key : Key) (m : Move) → EndsFor n m → AreAtEnds taken (Some c) (event_by key m)
      by_move key (In s) k = λ y there. k y there c is
      by_move key (Act d s t) k = tt
      by_move key (Out t) k = λ y there. k y there c is

    lanes_ends : (n : ℕ) (ps : List Pair) → ((i : ℕ) (p : Pair) → slice_get ps i ≡ Some p → slice_get PS (n + i) ≡ Some p) → AllByRecursion (λ (e : Entry). AreAtEnds taken e.pair e.event) (lanes_entries n (cert_lanes n ps ES))
    lanes_ends n [] f = tt
    lanes_ends n (p ∷ ps) f =
        all_append (λ (e : Entry). AreAtEnds taken e.pair e.event) (lane_entries n (record { events = map event_of (of_lane n ES); client = p.client; listen = p.listen })) (lanes_entries (n + 1) (cert_lanes (n + 1) ps ES))
        (entry_ends p n 0 None (of_lane n ES) (subst (λ (m : ℕ). slice_get PS m ≡ Some p) (omega arith) (f 0 p refl)) (all_of_lane (λ m e. EndsFor m e.move) n ES ends_for))
        (lanes_ends (n + 1) ps (λ i q k. subst (λ (m : ℕ). slice_get PS m ≡ Some q) (omega arith) (f (suc i) q k)))

    drops_ends : (n place : ℕ) (last : Option Key) (xs : List Event) → AllByRecursion (λ (e : Entry). AreAtEnds taken e.pair e.event) (entries_from None n place last xs)
    drops_ends n place last [] = tt
    drops_ends n place last (e ∷ xs) = (tt, drops_ends n (place + 1) (Some (key_of e)) xs)

    -- ---- the certificate

    abbrev FS : List Placed
    FS = placing (λ _. 0) ES

    up : Rises (placing (λ _. 0) (tagged (lane_of_move steps) 0 steps))
    up = placing_rises W (lane_of_move steps) 0 steps at_first (λ _. 0) run.runs

    good : AllByRecursion (λ (e : Placed). Fine W steps run once e.at.lane e.move) ES
    good = fine W steps run once

    within : AllByRecursion (λ (e : Placed). e.at.lane ≤ length PS) FS
    within = all_placing (λ (e : Placed). e.at.lane ≤ length PS) (λ n e h. h) (λ _. 0) ES (all_weaker (λ (e : Placed). Fine W steps run once e.at.lane e.move) (λ (e : Placed). e.at.lane ≤ length PS) (λ e f. f.2) ES good)

    dropped : AllByRecursion (λ (e : Placed). In (arrival e.move) ≡ e.move) (of_lane (length PS) ES)
    dropped = all_weaker (λ (e : Placed). Fine W steps run once (length PS) e.move) (λ (e : Placed). In (arrival e.move) ≡ e.move) (λ e f. elim f.3 [ inl l ↦ absurd (omega (arith, l)) | inr i ↦ i ]) (of_lane (length PS) ES)
        (all_of_lane (λ n e. Fine W steps run once n e.move) (length PS) ES good)

    own : (i : ℕ) (p : Pair) → slice_get PS i ≡ Some p → AllByRecursion (λ (e : Placed). OnlyOf p e.move) (of_lane (0 + i) ES)
    own i p h = subst (λ (m : ℕ). AllByRecursion (λ (e : Placed). OnlyOf p e.move) (of_lane m ES)) (omega arith)
        (all_weaker (λ (e : Placed). Fine W steps run once i e.move) (λ (e : Placed). OnlyOf p e.move) (λ e f c s t is. same_Some c p (sym (f.1 c s t is) ∙ h)) (of_lane i ES) (all_of_lane (λ n e. Fine W steps run once n e.move) i ES good))

    length_map : {A B : Type 0} (f : A → B) (xs : List A) → length (map f xs) ≡ length xs
    length_map f [] = refl
    length_map f (x ∷ xs) = ap suc (length_map f xs)

    length_append : {A : Type 0} (xs ys : List A) → length (xs ++ ys) ≡ length xs + length ys
    length_append [] ys = omega arith
    length_append (x ∷ xs) ys = omega (arith, length_append xs ys)

    length_count : (n : ℕ) (xs : List Placed) → length (count_from n xs) ≡ length xs
    length_count n [] = refl
    length_count n (x ∷ xs) = ap suc (length_count (n + 1) xs)

    length_placing : (f : ℕ → ℕ) (xs : List Placed) → length (placing f xs) ≡ length xs
    length_placing f [] = refl
    length_placing f (x ∷ xs) = ap suc (length_placing (bump f x.at.lane) xs)

    length_tagged : (lane : Move → ℕ) (n : ℕ) (xs : List Step) → length (tagged lane n xs) ≡ length xs
    length_tagged lane n [] = refl
    length_tagged lane n (x ∷ xs) = ap suc (length_tagged lane (n + 1) xs)

    length_inserted : (e : Placed) (ds : List Placed) → length (inserted e ds) ≡ length ds + 1
    length_inserted e [] = refl
    length_inserted e (d ∷ ds) = elim (is_lt (at_cmp e.at d.at)) as (λ b. length (cond b (e ∷ d ∷ ds) (d ∷ inserted e ds)) ≡ suc (length ds) + 1) [ true ↦ omega arith | false ↦ omega (arith, length_inserted e ds) ]

    length_sorted : (es : List Placed) → length (sorted es) ≡ length es
    length_sorted [] = refl
    length_sorted (e ∷ es) = omega (arith, length_inserted e (sorted es), length_sorted es)

    events_are : (n : ℕ) (ps : List Pair) → event_count (cert_lanes n ps ES) + length (of_lane (n + length ps) ES) ≡ length (joined (parts n ps FS))
    events_are n [] = omega (arith, length_append (of_lane n FS) [], ap length (of_placing n (λ _. 0) ES), length_count 0 (of_lane n ES), ap (λ m. length (of_lane m ES)) (plus_none n)) where
      plus_none : (m : ℕ) → m + 0 ≡ m
      plus_none m = omega arith
    events_are n (p ∷ ps) = omega (
      arith,
      sum_by-cons (λ (lane : CertLane). length lane.events) (record { events = map event_of (of_lane n ES); client = p.client; listen = p.listen }) (cert_lanes (n + 1) ps ES),
      length_map event_of (of_lane n ES),
      length_append (of_lane n FS) (joined (parts (n + 1) ps FS)),
      ap length (of_placing n (λ _. 0) ES),
      length_count 0 (of_lane n ES),
      events_are (n + 1) ps,
      ap (λ m. length (of_lane m ES)) (plus_one n (length ps)),
    ) where
      plus_one : (m k : ℕ) → m + suc k ≡ (m + 1) + k
      plus_one m k = omega arith

    module _ (few_clients : length PS ≤ 65536) (few_steps : length steps ≤ 50331648) where
      count_lanes : (n : ℕ) (ps : List Pair) → length (cert_lanes n ps ES) ≡ length ps
      count_lanes n [] = refl
      count_lanes n (p ∷ ps) = ap suc (count_lanes (n + 1) ps)

      all_events : event_count (cert_lanes 0 PS ES) + length (map drop_of (of_lane (length PS) ES)) ≤ 50331648
      all_events = omega (
        arith,
        few_steps,
        events_are 0 PS,
        ap (λ m. length (of_lane m ES)) (none_plus (length PS)),
        length_map drop_of (of_lane (length PS) ES),
        ap length (sorted_parts PS FS within up).1,
        length_sorted (joined (parts 0 PS FS)),
        length_placing (λ _. 0) ES,
        length_tagged (lane_of_move steps) 0 steps,
      ) where
        none_plus : (m : ℕ) → 0 + m ≡ m
        none_plus m = omega arith

      abbrev the_certificate : Certificate
      the_certificate = record {
        lanes = cert_lanes 0 PS ES;
        drops = map drop_of (of_lane (length PS) ES);
        distinct = distinct_back (cert_lanes 0 PS ES) (subst (IsDistinct same_client) (sym (pairs_are 0 PS ES)) (distinct_acting steps));
        few_lanes = subst (λ (m : ℕ). m ≤ 65536) (sym (count_lanes 0 PS)) few_clients;
        few_events = all_events;
        skews = [];
        rising = refl;
        few_skews = omega arith;
      }

      lists : by_lane the_certificate ≡ parts 0 PS FS
      lists =
          ap (λ m. lanes_from 0 (cert_lanes 0 PS ES) ++ map placed_of (entries_from None m 0 None (map arrival_of (map drop_of (of_lane (length PS) ES)))) ∷ []) (count_lanes 0 PS)
          ∙ lists_are ES (length PS) dropped PS 0 (omega arith) own

      glued_is : glued the_certificate ≡ FS
      glued_is = ap sorted (sym (joined_is the_certificate)) ∙ ap (λ ls. sorted (joined ls)) lists ∙ (sorted_parts PS FS within up).1

      steps_are : glued_steps the_certificate ≡ steps
      steps_are = ap (map step_of) glued_is ∙ steps_placing (λ _. 0) ES ∙ tagged_plain (lane_of_move steps) 0 steps

      at_home : StandAtHome (home_in steps) FS
      at_home = all_placing (λ (e : Placed). NamesAtHome (home_in steps) e.at.lane e.move) (λ n e h. h) (λ _. 0) ES (all_weaker (λ (e : Placed). Fine W steps run once e.at.lane e.move) (λ (e : Placed). NamesAtHome (home_in steps) e.at.lane e.move) (λ e f. f.0) ES good)

      conditions : KeepOrder steps → LaneConditions taken the_certificate
      conditions order =
          let follows : KeysFollow (sorted (all_placed the_certificate)) = subst KeysFollow (sym glued_is) (both_all KeyFollows follow_diag FS (follow_both W (lane_of_move steps) 0 steps at_first (λ _. 0) run.runs order)) in
          record {
            along = all_of_sorted (λ (d : Placed). AllByRecursion (KeyFollows d) (all_placed the_certificate)) (all_placed the_certificate)
                (all_weaker (λ (d : Placed). AllByRecursion (KeyFollows d) (sorted (all_placed the_certificate))) (λ (d : Placed). AllByRecursion (KeyFollows d) (all_placed the_certificate)) (λ d k. all_of_sorted (KeyFollows d) (all_placed the_certificate) k) (sorted (all_placed the_certificate)) follows);
            rise = subst (AllByRecursion Rises) (sym lists) (sorted_parts PS FS within up).0;
            ends = all_append (λ (e : Entry). AreAtEnds taken e.pair e.event) (lanes_entries 0 (cert_lanes 0 PS ES)) (drop_entries (length (cert_lanes 0 PS ES)) (map drop_of (of_lane (length PS) ES)))
                (lanes_ends 0 PS (λ i p k. subst (λ (m : ℕ). slice_get PS m ≡ Some p) (omega arith) k))
                (drops_ends (length (cert_lanes 0 PS ES)) 0 None (map arrival_of (map drop_of (of_lane (length PS) ES))));
            meet = meet_in_lanes (glued the_certificate) (subst InOneLane (sym glued_is) (home_in steps, at_home));
            cuts = all_free taken (entries the_certificate);
          }

      pub all_written : KeepOrder steps → (c : Certificate) × LaneConditions taken c × (glued_steps c ≡ steps)
          × (c.lanes ≡ cert_lanes 0 (acting_pairs steps) (tagged (lane_of_move steps) 0 steps)) × (c.drops ≡ map drop_of (of_lane (length (acting_pairs steps)) (tagged (lane_of_move steps) 0 steps)))
          × (c.skews ≡ [])
      all_written order = (the_certificate, conditions order, steps_are, refl, refl, refl)
