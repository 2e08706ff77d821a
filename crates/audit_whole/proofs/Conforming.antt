-- All is passed exactly where the certificate explains the captures by one run.
use Rattle.std.proofs.Common.{◌≡◌, ◌≤◌, ◌<◌, ◌+◌, inl, inr, ℕ, zero, suc, Bool, true, false, cond, Option, Some, None, List, [], ◌∷◌, ◌++◌, length, map, get_or, refl, sym, ◌∙◌, ap, subst, arith}
use Rattle.std.specs.Prelude.{is_some, IsSomeAnd, Contains}
use Rattle.std.specs.List.{AllByRecursion}
use Rattle.std.specs.List.Sorted.{IsStrictlySortedBy}
use Rattle.std.specs.declared.cmp.Ordering.TheVariants.{Less}
use Rattle.std.proofs.lemmas.List.Elements.{Contains-push, Contains-append_left, Contains-append_right}
use Rattle.audit_model.specs.declared.certificate.Certificate.{Certificate}
use Rattle.audit_model.specs.declared.certificate.CertDrop.{CertDrop}
use Rattle.audit_model.specs.declared.event.Key.{Key}
use Rattle.audit_model.specs.declared.sighting.SightId.{SightId}
use Rattle.audit_model.specs.declared.sighting.Side.TheVariants.{Arrives, Leaves}
use Rattle.audit_model.specs.declared.sighting.Sighting.{Sighting}
use Rattle.audit_model.specs.declared.verdict.Breach.{Breach}
use Rattle.audit_model.specs.declared.verdict.Tenancy.{Tenancy}
use Rattle.audit_model.specs.Clash.{Clashes, ShowsClash, breach_of}
use Rattle.audit_sightings.specs.Intake.{Taken, sighting_at, AreNumbered}
use Rattle.audit_rules.specs.Keys.{KeyFor}
use Rattle.audit_placement.specs.Entries.{entries_from, arrival_of, entries}
use Rattle.audit_server.specs.Step.{Step, Move, In, Act, Out}
use Rattle.audit_server.specs.Rules.{Rules}
use Rattle.audit_server.specs.State.{State, at_first, after}
use Rattle.audit_server.specs.Placed.{at_cmp, Placed, step_of, Runs, led, Rises}
use Rattle.audit_server.specs.Run.{IsRun}
use Rattle.audit_server.specs.Holding.{AnyOf}
use Rattle.audit_server.specs.Homes.{AreOfPairs, InOneLane}
use Rattle.audit_server.specs.Lawful.{AreLawful}
use Rattle.audit_server.specs.Tenancies.{tenancies_in, tenancies_from}
use Rattle.audit_server.specs.Glued.{joined, sorted}
use Rattle.audit_server.specs.Placing.{places, times_placed}
use Rattle.audit_server.specs.Whole.{EachRuns, all_tenancies, ClashNowhere}
use Rattle.audit_server.proofs.Orders.{moment_le, all_append, all_left, all_right, all_weaker}
use Rattle.audit_server.proofs.Whole.{all_of_splits}
use Rattle.audit_server.proofs.Sorting.{all_sorted, all_of_sorted, count_sorted}
use Rattle.audit_server.proofs.Along.{keeps_order, follow_sorted}
use Rattle.audit_server.proofs.Verdict.{sound, complete, glued_rises, all_steps, all_events}
use Rattle.audit_server.proofs.Meeting.{both_there, one_lane, meet_in_lanes}
use Rattle.audit_server.proofs.Lawful.{lawful}
use Rattle.audit_whole.specs.Glued.{placed_of, lanes_from, the_drops, by_lane, all_placed, glued, glued_steps, pairs_of}
use Rattle.audit_whole.specs.CaptureRun.{rules_for, IsSeen, MayBePlaced}
use Rattle.audit_whole.specs.Conforms.{Conforms}
use Rattle.audit_whole.specs.Passes.{Passes}
use Rattle.audit_whole.proofs.Listing.{joined_is, numbered as lists_numbered, of_pairs, distinct_pairs}
use Rattle.audit_whole.proofs.Cutting.{within_all, none_cut_of}
use Rattle.audit_whole.proofs.Placement.{Sound, sound_of, shows_none}
use Rattle.audit_whole.proofs.Conditions.{ActIsSeen, along_all, seen_all, ends_all, rise_all, count_all, sound_from}

-- ---- drops are a run

drops_run : (w : Rules) (lane place : ℕ) (last : Option Key) (ds : List CertDrop) (st : State) → Rises (map placed_of (entries_from None lane place last (map arrival_of ds))) →
    AllByRecursion (λ (e : Placed). st.now ≤ e.at.key.moment) (map placed_of (entries_from None lane place last (map arrival_of ds))) →
    Runs w st (map placed_of (entries_from None lane place last (map arrival_of ds))) × ((t : SightId) → (led w st (map placed_of (entries_from None lane place last (map arrival_of ds)))).owed t ≡ st.owed t)
unfolding IsStrictlySortedBy
drops_run w lane place last [] st r a = (tt, λ t. refl)
drops_run w lane place last (d ∷ ds) st r a =
    let e : Placed = record { at = record { key = d.key; lane = lane; place = place }; move = In d.sight } in
    let rest = drops_run w lane (place + 1) (Some d.key) ds (after w st (step_of e)) r.1
    (all_weaker (λ (x : Placed). at_cmp e.at x.at ≡ Less) (λ (x : Placed). d.key.moment ≤ x.at.key.moment) (λ x h. moment_le e.at x.at h) (map placed_of (entries_from None lane (place + 1) (Some d.key) (map arrival_of ds))) r.0) in
    ((record { in_order = a.0; may = tt; free = tt }, rest.0), rest.1)

from_zero : (xs : List Placed) → AllByRecursion (λ (e : Placed). 0 ≤ e.at.key.moment) xs
from_zero [] = tt
from_zero (x ∷ xs) = (omega arith, from_zero xs)

pub run_of_drops : (w : Rules) (certificate : Certificate) → Rises (the_drops certificate) → IsRun w (map step_of (the_drops certificate))
run_of_drops w certificate r =
    let k = drops_run w (length certificate.lanes) 0 None certificate.drops at_first r (from_zero (the_drops certificate)) in
    record { runs = k.0; nothing_owed = λ t. k.1 t }

no_tenancies : (w : Rules) (lane place : ℕ) (last : Option Key) (ds : List CertDrop) → tenancies_from w None None (map placed_of (entries_from None lane place last (map arrival_of ds))) ≡ []
no_tenancies w lane place last [] = refl
no_tenancies w lane place last (d ∷ ds) = no_tenancies w lane (place + 1) (Some d.key) ds

tenancies_more : (w : Rules) (ls : List (List Placed)) (last : List Placed) → tenancies_in w last ≡ [] → all_tenancies w (ls ++ last ∷ []) ≡ all_tenancies w ls
tenancies_more w [] last h = ap (λ ts. ts ++ []) h
tenancies_more w (l ∷ ls) last h = ap (λ ts. tenancies_in w l ++ ts) (tenancies_more w ls last h)

pub lane_tenancies : (w : Rules) (certificate : Certificate) → all_tenancies w (by_lane certificate) ≡ all_tenancies w (lanes_from 0 certificate.lanes)
lane_tenancies w certificate = tenancies_more w (lanes_from 0 certificate.lanes) (the_drops certificate) (no_tenancies w (length certificate.lanes) 0 None certificate.drops)

-- ---- clashes

pub in_front : {A : Type 0} (x : A) (xs : List A) → Contains (x ∷ xs) x
in_front x xs = Contains-append_left (x ∷ []) xs x (Contains-push [] x)

pub in_behind : {A : Type 0} (x : A) (xs : List A) (y : A) → Contains xs y → Contains (x ∷ xs) y
in_behind x xs y h = Contains-append_right (x ∷ []) xs y h

all_contained : {A : Type 0} (P : A → Type 0) (xs : List A) → ((x : A) → Contains xs x → P x) → AllByRecursion P xs
all_contained P [] f = tt
all_contained P (x ∷ xs) f = (f x (in_front x xs), all_contained P xs (λ y h. f y (in_behind x xs y h)))

pub any_contained : {A : Type 0} (P : A → Type 0) (xs : List A) → AnyOf P xs → (x : A) × Contains xs x × P x
any_contained P [] h = absurd h
any_contained P (x ∷ xs) (inl h) = (x, in_front x xs, h)
any_contained P (x ∷ xs) (inr h) = let k = any_contained P xs h in (k.0, in_behind x xs k.0 k.1, k.2)

all_at : {A : Type 0} (P : A → Type 0) (xs : List A) (k : ℕ) (x : A) → AllByRecursion P xs → k < length xs → P (get_or xs k x)
all_at P [] k x h l = absurd (omega (arith, l))
all_at P (y ∷ ys) zero x h l = h.0
all_at P (y ∷ ys) (suc k) x h l = all_at P ys k x h.1 (omega (arith, l))

pub contained_all : {A : Type 0} (P : A → Type 0) (xs : List A) (x : A) → AllByRecursion P xs → Contains xs x → P x
contained_all P xs x h c = subst P c.2 (all_at P xs c.0 x h c.1)

any_at : {A : Type 0} (P : A → Type 0) (xs : List A) (k : ℕ) (x : A) → k < length xs → P (get_or xs k x) → AnyOf P xs
any_at P [] k x l p = absurd (omega (arith, l))
any_at P (y ∷ ys) zero x l p = inl p
any_at P (y ∷ ys) (suc k) x l p = inr (any_at P ys k x (omega (arith, l)) p)

pub contained_any : {A : Type 0} (P : A → Type 0) (xs : List A) (x : A) → Contains xs x → P x → AnyOf P xs
contained_any P xs x c p = any_at P xs c.0 x c.1 (subst P (sym c.2) p)

pub nowhere_of : (ts : List Tenancy) → ((b : Breach) → ¬ ShowsClash ts b) → ClashNowhere ts
nowhere_of ts f = all_contained (λ (new : Tenancy). AnyOf (Clashes new) ts → ⊥) ts (λ new c a.
    let k = any_contained (Clashes new) ts a in f (breach_of new) (new, k.0, c, k.1, k.2, refl))

pub nowhere_to : (ts : List Tenancy) → ClashNowhere ts → (b : Breach) → ¬ ShowsClash ts b
nowhere_to ts n b s = contained_all (λ (new : Tenancy). AnyOf (Clashes new) ts → ⊥) ts s.0 n s.2 (contained_any (Clashes s.0) ts s.1 s.3 s.4)

-- ---- both ways

at_most : (b : Bool) → cond {A = ℕ} b 1 0 ≤ 1
at_most true = omega arith
at_most false = omega arith

pub any_all : {A : Type 0} (P Q : A → Type 0) (xs : List A) → AnyOf P xs → AllByRecursion Q xs → (x : A) × P x × Q x
any_all P Q [] h a = absurd h
any_all P Q (x ∷ xs) (inl h) a = (x, h, a.0)
any_all P Q (x ∷ xs) (inr h) a = any_all P Q xs h a.1

side_of : (taken : Taken) (sight : SightId) (moment : ℕ) → IsSeen taken Arrives sight moment → IsSomeAnd (sighting_at taken sight) (λ x. x.side ≡ Arrives)
side_of taken sight moment h = by_option (sighting_at taken sight) h where
  by_option : (o : Option Sighting) → IsSomeAnd o (λ s. (s.side ≡ Arrives) × (s.lo ≤ moment) × (moment ≤ s.hi)) → IsSomeAnd o (λ x. x.side ≡ Arrives)
  by_option None k = k
  by_option (Some s) k = k.0

left_of : (taken : Taken) (sight : SightId) (moment : ℕ) → IsSeen taken Leaves sight moment → IsSomeAnd (sighting_at taken sight) (λ x. x.side ≡ Leaves)
left_of taken sight moment h = by_option (sighting_at taken sight) h where
  by_option : (o : Option Sighting) → IsSomeAnd o (λ s. (s.side ≡ Leaves) × (s.lo ≤ moment) × (moment ≤ s.hi)) → IsSomeAnd o (λ x. x.side ≡ Leaves)
  by_option None k = k
  by_option (Some s) k = k.0

module _ (taken : Taken) (numbered : AreNumbered taken) (key_for : KeyFor) (certificate : Certificate) where
  law : AreLawful (rules_for taken key_for)
  law = lawful taken.policy key_for (sighting_at taken)

  pairs_joined : AreOfPairs (pairs_of certificate) (joined (by_lane certificate))
  pairs_joined = subst (AreOfPairs (pairs_of certificate)) (sym (joined_is certificate)) (of_pairs certificate)

  -- if all passes, the whole is a run that explains the captures
  pub conforms_of : Passes taken (rules_for taken key_for) certificate → Conforms taken (rules_for taken key_for) certificate
  conforms_of p =
      let w : Rules = rules_for taken key_for in
      let s : Sound taken (entries certificate) = sound_of taken numbered certificate p.placement in
      let rise : AllByRecursion Rises (by_lane certificate) = rise_all taken numbered certificate s in
      let drop_rises : Rises (the_drops certificate) = (all_right Rises (lanes_from 0 certificate.lanes) (the_drops certificate ∷ []) rise).0 in
      let count : (x : SightId) → times_placed x (map step_of (all_placed certificate)) ≡ cond (is_some (sighting_at taken x)) 1 0 = count_all taken numbered certificate s in
      let few : (x : SightId) → times_placed x (map step_of (joined (by_lane certificate))) ≤ 1 = λ x. subst (λ (es : List Placed). times_placed x (map step_of es) ≤ 1) (sym (joined_is certificate)) (subst (λ (n : ℕ). n ≤ 1) (sym (count x)) (at_most (is_some (sighting_at taken x)))) in
      let each : EachRuns w (by_lane certificate) = all_append (λ (l : List Placed). IsRun w (map step_of l)) (lanes_from 0 certificate.lanes) (the_drops certificate ∷ []) p.lanes (run_of_drops w certificate drop_rises, tt) in
      let nowhere : ClashNowhere (all_tenancies w (by_lane certificate)) = subst ClashNowhere (sym (lane_tenancies w certificate)) (nowhere_of (all_tenancies w (lanes_from 0 certificate.lanes)) p.tenancies) in
      let both = sound w law (pairs_of certificate) (distinct_pairs certificate) (by_lane certificate) (lists_numbered certificate) rise pairs_joined few each nowhere in
      let home : InOneLane (glued certificate) = subst (λ (es : List Placed). InOneLane (sorted es)) (joined_is certificate) both.0 in
      let run : IsRun w (glued_steps certificate) = subst (λ (es : List Placed). IsRun w (map step_of (sorted es))) (joined_is certificate) both.1 in
      let rises : Rises (glued certificate) = subst (λ (es : List Placed). Rises (sorted es)) (joined_is certificate) (glued_rises (by_lane certificate) (lists_numbered certificate) rise) in
      let glued_count : (x : SightId) → times_placed x (glued_steps certificate) ≡ cond (is_some (sighting_at taken x)) 1 0 = λ x. count_sorted (λ (e : Step). places x e.move) (all_placed certificate) ∙ count x in
      record {
        conditions = record {
          along = along_all taken numbered certificate s;
          rise = rise;
          ends = ends_all taken numbered certificate s;
          meet = meet_in_lanes (glued certificate) home;
          cuts = within_all taken certificate.skews (entries certificate) (λ b shown. p.placement b (inr shown));
        };
        run = record {
          placed = glued_count;
          seen = all_steps (λ (e : Step). MayBePlaced taken e.moment e.move) (glued certificate) (all_sorted (λ (e : Placed). MayBePlaced taken e.at.key.moment e.move) (all_placed certificate) (seen_all taken numbered certificate s));
          order = keeps_order (glued certificate) rises (follow_sorted (all_placed certificate) (along_all taken numbered certificate s)) (λ x. subst (λ (n : ℕ). n ≤ 1) (sym (glued_count x)) (at_most (is_some (sighting_at taken x))));
          run = run;
        };
      }

  act_seen : (w : Rules) (events : List Placed) (run : IsRun w (map step_of events)) (once : (x : SightId) → times_placed x (map step_of events) ≤ 1) → AllByRecursion (λ (e : Step). MayBePlaced taken e.moment e.move) (map step_of events) →
      (p : List Placed) (e : Placed) (q : List Placed) → p ++ e ∷ q ≡ events → (m : Move) → e.move ≡ m → ActIsSeen taken m
  act_seen w events run once seen p e q h (In s) is = tt
  act_seen w events run once seen p e q h (Act c s t) is =
      let k = both_there w events run once p e q h c s t is in
      let a = any_all (λ (d : Step). d.move ≡ In s) (λ (d : Step). MayBePlaced taken d.moment d.move) (map step_of events) k.0 seen in
      let b = any_all (λ (d : Step). d.move ≡ Out t) (λ (d : Step). MayBePlaced taken d.moment d.move) (map step_of events) k.1 seen in (
        side_of taken s a.0.moment (subst (λ (m : Move). MayBePlaced taken a.0.moment m) a.1 a.2),
        left_of taken t b.0.moment (subst (λ (m : Move). MayBePlaced taken b.0.moment m) b.1 b.2),
      )
  act_seen w events run once seen p e q h (Out t) is = tt

  -- if the whole is such a run, and the lane conditions hold, all passes
  pub passes_of : Conforms taken (rules_for taken key_for) certificate → Passes taken (rules_for taken key_for) certificate
  passes_of c =
      let w : Rules = rules_for taken key_for in
      let once : (x : SightId) → times_placed x (glued_steps certificate) ≤ 1 = λ x. subst (λ (n : ℕ). n ≤ 1) (sym (c.run.placed x)) (at_most (is_some (sighting_at taken x))) in
      let count : (x : SightId) → times_placed x (map step_of (all_placed certificate)) ≡ cond (is_some (sighting_at taken x)) 1 0 = λ x. sym (count_sorted (λ (e : Step). places x e.move) (all_placed certificate)) ∙ c.run.placed x in
      let seen : AllByRecursion (λ (x : Placed). MayBePlaced taken x.at.key.moment x.move) (all_placed certificate) = all_of_sorted (λ (e : Placed). MayBePlaced taken e.at.key.moment e.move) (all_placed certificate) (all_events (λ (e : Step). MayBePlaced taken e.moment e.move) (glued certificate) c.run.seen) in
      let acts : AllByRecursion (λ (x : Placed). ActIsSeen taken x.move) (all_placed certificate) = all_of_sorted (λ (x : Placed). ActIsSeen taken x.move) (all_placed certificate)
      (all_of_splits (λ (x : Placed). ActIsSeen taken x.move) (glued certificate) (λ p e q h. act_seen w (glued certificate) c.run.run once c.run.seen p e q h e.move refl)) in
      let s : Sound taken (entries certificate) = sound_from taken certificate count seen acts c.conditions.along c.conditions.rise c.conditions.ends in
      let home : InOneLane (glued certificate) = one_lane w (glued certificate) c.run.run once c.conditions.meet in
      let both = complete w law (pairs_of certificate) (distinct_pairs certificate) (by_lane certificate) (lists_numbered certificate) c.conditions.rise pairs_joined
      (subst (λ (es : List Placed). InOneLane (sorted es)) (sym (joined_is certificate)) home)
      (subst (λ (es : List Placed). IsRun w (map step_of (sorted es))) (sym (joined_is certificate)) c.run.run) in
      record {
        placement = shows_none taken numbered certificate s (none_cut_of taken certificate.skews (entries certificate) c.conditions.cuts);
        lanes = all_left (λ (l : List Placed). IsRun w (map step_of l)) (lanes_from 0 certificate.lanes) (the_drops certificate ∷ []) both.0;
        tenancies = nowhere_to (all_tenancies w (lanes_from 0 certificate.lanes)) (subst ClashNowhere (lane_tenancies w certificate) both.1);
      }
