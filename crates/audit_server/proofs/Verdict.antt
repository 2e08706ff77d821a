-- What is checked lane by lane is the whole.
use Rattle.std.proofs.Common.{◌≡◌, ◌≢◌, ◌≤◌, inl, inr, ℕ, Option, None, List, [], ◌∷◌, refl, sym, ◌∙◌, subst, map}
use Rattle.std.specs.List.{AllByRecursion}
use Rattle.std.specs.List.Sorted.{IsStrictlySortedBy}
use Rattle.std.proofs.lemmas.Bool.{cases_eq}
use Rattle.audit_model.specs.declared.address.Addr.{Addr}
use Rattle.audit_model.specs.declared.sighting.SightId.{SightId}
use Rattle.audit_model.specs.declared.verdict.Tenancy.{Tenancy}
use Rattle.audit_model.specs.Clash.{Clashes}
use Rattle.audit_model.specs.declared.pair.Pair.{Pair}
use Rattle.audit_server.specs.Glued.{joined, Numbered, sorted}
use Rattle.audit_server.specs.Holding.{HoldsAt, AnyOf, NoClash}
use Rattle.audit_server.specs.Homes.{StandAtHome, IsOfPair, AreOfPairs, AreDistinct, InOneLane}
use Rattle.audit_server.specs.Lawful.{AreLawful}
use Rattle.audit_server.specs.Placed.{Placed, step_of, of_lane, Rises}
use Rattle.audit_server.specs.Placing.{places, times_placed}
use Rattle.audit_server.specs.Rules.{Rules}
use Rattle.audit_server.specs.Run.{IsRun}
use Rattle.audit_server.specs.Step.{Step}
use Rattle.audit_server.specs.Tenancies.{tenancies_in, tenancies}
use Rattle.audit_server.specs.Whole.{EachRuns, all_tenancies, ClashNowhere}
use Rattle.audit_server.proofs.Orders.{all_append, all_left, all_right, all_weaker}
use Rattle.audit_server.proofs.Holding.{any_append, any_left, any_right}
use Rattle.audit_server.proofs.Whole.{lane_is}
use Rattle.audit_server.proofs.Both.{each_made, all_made, Parts, whole_runs, whole_owes, parts_run, parts_owe, parts_apart}
use Rattle.audit_server.proofs.Sorting.{all_sorted, count_sorted, rises_sorted, of_lane_sorted, each_lane, each_list, apart_joined}
use Rattle.audit_server.proofs.Placing.{placed_lane, homes}

-- ---- lists of what holds

all_both : {A : Type 0} (P Q R : A → Type 0) → ((x : A) → P x → Q x → R x) → (xs : List A) → AllByRecursion P xs → AllByRecursion Q xs → AllByRecursion R xs
all_both P Q R f [] h k = tt
all_both P Q R f (x ∷ xs) h k = (f x h.0 k.0, all_both P Q R f xs h.1 k.1)

all_swap : {A B : Type 0} (P : B → A → Type 0) (xs : List A) → ((b : B) → AllByRecursion (P b) xs) → AllByRecursion (λ x. (b : B) → P b x) xs
all_swap P [] f = tt
all_swap P (x ∷ xs) f = ((λ b. (f b).0), all_swap P xs (λ b. (f b).1))

any_with : {A : Type 0} (P Q R : A → Type 0) → ((x : A) → P x → Q x → R x) → (xs : List A) → AllByRecursion P xs → AnyOf Q xs → AnyOf R xs
any_with P Q R f [] h k = k
any_with P Q R f (x ∷ xs) h (inl k) = inl (f x h.0 k)
any_with P Q R f (x ∷ xs) h (inr k) = inr (any_with P Q R f xs h.1 k)

any_never : {A : Type 0} (xs : List A) → AnyOf (λ (x : A). ⊥) xs → ⊥
any_never [] h = h
any_never (x ∷ xs) (inl h) = h
any_never (x ∷ xs) (inr h) = any_never xs h

-- ---- the tenancies of all lanes

module _ (w : Rules) (Q : Tenancy → Type 0) where
  all_to : (ls : List (List Placed)) → AllByRecursion (λ (l : List Placed). AllByRecursion Q (tenancies_in w l)) ls → AllByRecursion Q (all_tenancies w ls)
  all_to [] h = tt
  all_to (l ∷ ls) h = all_append Q (tenancies_in w l) (all_tenancies w ls) h.0 (all_to ls h.1)

  all_from' : (ls : List (List Placed)) → AllByRecursion Q (all_tenancies w ls) → AllByRecursion (λ (l : List Placed). AllByRecursion Q (tenancies_in w l)) ls
  all_from' [] h = tt
  all_from' (l ∷ ls) h = (all_left Q (tenancies_in w l) (all_tenancies w ls) h, all_from' ls (all_right Q (tenancies_in w l) (all_tenancies w ls) h))

  none_to : (ls : List (List Placed)) → AllByRecursion (λ (l : List Placed). AnyOf Q (tenancies_in w l) → ⊥) ls → AnyOf Q (all_tenancies w ls) → ⊥
  none_to [] h k = k
  none_to (l ∷ ls) h k = elim (any_append Q (tenancies_in w l) (all_tenancies w ls) k) [ inl a ↦ h.0 a | inr b ↦ none_to ls h.1 b ]

  none_from : (ls : List (List Placed)) → (AnyOf Q (all_tenancies w ls) → ⊥) → AllByRecursion (λ (l : List Placed). AnyOf Q (tenancies_in w l) → ⊥) ls
  none_from [] h = tt
  none_from (l ∷ ls) h = ((λ k. h (any_left Q (tenancies_in w l) (all_tenancies w ls) k)), none_from ls (λ k. h (any_right Q (tenancies_in w l) (all_tenancies w ls) k)))

-- a lane's tenancies are born in the lane
born_in : (w : Rules) (lane : ℕ) (steps : List Placed) → AllByRecursion (λ (t : Tenancy). t.born.lane ≡ lane) (tenancies w lane steps)
born_in w lane steps = each_made w (λ b _. b.lane ≡ lane) (of_lane lane steps) None None tt
    (all_made w (λ b _. b.lane ≡ lane) (of_lane lane steps) None (all_weaker (λ (e : Placed). e.at.lane ≡ lane) (λ (e : Placed). (relayed : Addr) → e.at.lane ≡ lane) (λ e h r. h) (of_lane lane steps) (lane_is lane steps)))

clashes : (new held : Tenancy) → held.born.lane ≢ new.born.lane → HoldsAt new.born new.relayed held → Clashes new held
clashes new held ne h = record { same_address = h.same; other_lane = ne; born_before = h.born; still_held = h.still }

holds : (new held : Tenancy) → Clashes new held → HoldsAt new.born new.relayed held
holds new held k = record { same = k.same_address; born = k.born_before; still = k.still_held }

module _ (w : Rules) (ls : List (List Placed)) (num : Numbered 0 ls) where
  -- no clash among all is no clash between lanes
  pub to_nowhere : NoClash w (joined ls) → ClashNowhere (all_tenancies w ls)
  to_nowhere apart =
      all_to w (λ (t : Tenancy). AnyOf (Clashes t) (all_tenancies w ls) → ⊥) ls
      (each_list (λ (l : List Placed). AllByRecursion (λ (t : Tenancy). AnyOf (Clashes t) (all_tenancies w ls) → ⊥) (tenancies_in w l)) tt 0 ls num (λ one.
      all_both (λ (t : Tenancy). t.born.lane ≡ one) (λ (t : Tenancy). (other : ℕ) → one ≢ other → AnyOf (HoldsAt t.born t.relayed) (tenancies w other (joined ls)) → ⊥) (λ (t : Tenancy). AnyOf (Clashes t) (all_tenancies w ls) → ⊥)
      (λ t is f. none_to w (Clashes t) ls
      (each_list (λ (l : List Placed). AnyOf (Clashes t) (tenancies_in w l) → ⊥) (λ z. z) 0 ls num (λ other k.
      by_lane t one other is (f other) k)))
      (tenancies w one (joined ls)) (born_in w one (joined ls))
      (all_swap (λ (other : ℕ) (t : Tenancy). one ≢ other → AnyOf (HoldsAt t.born t.relayed) (tenancies w other (joined ls)) → ⊥) (tenancies w one (joined ls))
      (λ other. all_swap (λ (ne : one ≢ other) (t : Tenancy). AnyOf (HoldsAt t.born t.relayed) (tenancies w other (joined ls)) → ⊥) (tenancies w one (joined ls)) (λ ne. apart one other ne))))) where
        by_lane : (t : Tenancy) (one other : ℕ) → t.born.lane ≡ one → (one ≢ other → AnyOf (HoldsAt t.born t.relayed) (tenancies w other (joined ls)) → ⊥) → AnyOf (Clashes t) (tenancies w other (joined ls)) → ⊥
        by_lane t one other is f k = elim (cases_eq one other) [
          | inl e ↦ any_never (tenancies w other (joined ls)) (any_with (λ (u : Tenancy). u.born.lane ≡ other) (Clashes t) (λ (u : Tenancy). ⊥) (λ u b q. q.other_lane (b ∙ sym e ∙ sym is)) (tenancies w other (joined ls)) (born_in w other (joined ls)) k)
          | inr ne ↦ f ne (any_with (λ (u : Tenancy). u.born.lane ≡ other) (Clashes t) (HoldsAt t.born t.relayed) (λ u b q. holds t u q) (tenancies w other (joined ls)) (born_in w other (joined ls)) k)
        ]

  pub from_nowhere : ClashNowhere (all_tenancies w ls) → NoClash w (joined ls)
  from_nowhere nowhere one other ne =
      all_both (λ (t : Tenancy). t.born.lane ≡ one) (λ (t : Tenancy). AnyOf (Clashes t) (all_tenancies w ls) → ⊥) (λ (t : Tenancy). AnyOf (HoldsAt t.born t.relayed) (tenancies w other (joined ls)) → ⊥)
      (λ t is f k. each_lane (λ (l : List Placed). AnyOf (Clashes t) (tenancies_in w l) → ⊥) (λ z. z) 0 ls num (none_from w (Clashes t) ls f) other
      (any_with (λ (u : Tenancy). u.born.lane ≡ other) (HoldsAt t.born t.relayed) (Clashes t) (λ u b h. clashes t u (λ e. ne (sym is ∙ sym e ∙ b)) h) (tenancies w other (joined ls)) (born_in w other (joined ls)) k))
      (tenancies w one (joined ls)) (born_in w one (joined ls))
      (each_lane (λ (l : List Placed). AllByRecursion (λ (t : Tenancy). AnyOf (Clashes t) (all_tenancies w ls) → ⊥) (tenancies_in w l)) tt 0 ls num (all_from' w (λ (t : Tenancy). AnyOf (Clashes t) (all_tenancies w ls) → ⊥) ls nowhere) one)

pub clash_moves : (w : Rules) (xs ys : List Placed) → ((i : ℕ) → of_lane i xs ≡ of_lane i ys) → NoClash w xs → NoClash w ys
clash_moves w xs ys same h one other ne =
    subst (λ (l : List Placed). AllByRecursion (λ (t : Tenancy). AnyOf (HoldsAt t.born t.relayed) (tenancies w other ys) → ⊥) (tenancies_in w l)) (same one)
    (subst (λ (l : List Placed). AllByRecursion (λ (t : Tenancy). AnyOf (HoldsAt t.born t.relayed) (tenancies_in w l) → ⊥) (tenancies w one xs)) (same other) (h one other ne))

-- ---- both ways

pub rises_nil : Rises []
unfolding IsStrictlySortedBy
rises_nil = tt

pub run_nil : (w : Rules) → IsRun w []
run_nil w = record { runs = tt; nothing_owed = λ t. refl }

pub all_steps : (P : Step → Type 0) (es : List Placed) → AllByRecursion (λ (e : Placed). P (step_of e)) es → AllByRecursion P (map step_of es)
all_steps P [] h = tt
all_steps P (e ∷ es) h = (h.0, all_steps P es h.1)

pub all_events : (P : Step → Type 0) (es : List Placed) → AllByRecursion P (map step_of es) → AllByRecursion (λ (e : Placed). P (step_of e)) es
all_events P [] h = tt
all_events P (e ∷ es) h = (h.0, all_events P es h.1)

module _ (ls : List (List Placed)) (num : Numbered 0 ls) (rise : AllByRecursion Rises ls) where
  -- of each lane, the sorted list has what the lane has
  pub same_lanes : (lane : ℕ) → of_lane lane (sorted (joined ls)) ≡ of_lane lane (joined ls)
  same_lanes lane = of_lane_sorted lane (joined ls) (each_lane Rises rises_nil 0 ls num rise lane)

  pub glued_rises : Rises (sorted (joined ls))
  glued_rises = rises_sorted (joined ls) (apart_joined 0 ls num rise)

module _ (w : Rules) (law : AreLawful w) (pairs : ℕ → Option Pair) (distinct : AreDistinct pairs) (ls : List (List Placed)) (num : Numbered 0 ls) (rise : AllByRecursion Rises ls) (of_pairs : AreOfPairs pairs (joined ls)) where
  glued_pairs : AreOfPairs pairs (sorted (joined ls))
  glued_pairs = all_sorted (λ (e : Placed). IsOfPair pairs e.at.lane e.move) (joined ls) of_pairs

  -- if the lanes pass, the whole is a run
  pub sound : ((s : SightId) → times_placed s (map step_of (joined ls)) ≤ 1) → EachRuns w ls → ClashNowhere (all_tenancies w ls) → InOneLane (sorted (joined ls)) × IsRun w (map step_of (sorted (joined ls)))
  sound few each nowhere =
      let all : List Placed = sorted (joined ls) in
      let runs : (lane : ℕ) → IsRun w (map step_of (of_lane lane all)) = λ lane. subst (λ (l : List Placed). IsRun w (map step_of l)) (sym (same_lanes ls num rise lane)) (each_lane (λ (l : List Placed). IsRun w (map step_of l)) (run_nil w) 0 ls num each lane) in
      let once : (s : SightId) → times_placed s (map step_of all) ≤ 1 = λ s. subst (λ (n : ℕ). n ≤ 1) (sym (count_sorted (λ (e : Step). places s e.move) (joined ls))) (few s) in
      let home : StandAtHome (placed_lane all) all = homes w all once (λ lane. (runs lane).runs) (λ lane. (runs lane).nothing_owed) in
      let parts : Parts w (placed_lane all) pairs all = record {
        rises = glued_rises ls num rise;
        at_home = home;
        of_pairs = glued_pairs;
        runs = λ lane. (runs lane).runs;
        apart = clash_moves w (joined ls) all (λ i. sym (same_lanes ls num rise i)) (from_nowhere w ls num nowhere);
      } in (
        (placed_lane all, home),
        record {
          runs = whole_runs w law (placed_lane all) pairs distinct all parts;
          nothing_owed = whole_owes w law (placed_lane all) pairs distinct all home glued_pairs (λ lane. (runs lane).nothing_owed);
        },
      )

  -- if the whole is a run, the lanes pass
  pub complete : InOneLane (sorted (joined ls)) → IsRun w (map step_of (sorted (joined ls))) → EachRuns w ls × ClashNowhere (all_tenancies w ls)
  complete at_home run =
      let all : List Placed = sorted (joined ls) in (
        each_list (λ (l : List Placed). IsRun w (map step_of l)) (run_nil w) 0 ls num (λ lane. subst (λ (l : List Placed). IsRun w (map step_of l)) (same_lanes ls num rise lane) (record {
          runs = parts_run w law at_home.0 pairs distinct all at_home.1 glued_pairs run.runs lane;
          nothing_owed = parts_owe w law at_home.0 pairs distinct all at_home.1 glued_pairs run.runs run.nothing_owed lane;
        })),
        to_nowhere w ls num (clash_moves w all (joined ls) (same_lanes ls num rise) (parts_apart w law at_home.0 pairs distinct all (glued_rises ls num rise) at_home.1 glued_pairs run.runs)),
      )
