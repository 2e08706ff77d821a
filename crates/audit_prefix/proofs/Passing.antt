-- If no breach is reported, all passes; and at the end what is left to be checked is the verdict.
use Rattle.std.proofs.Common.{◌≡◌, ◌≤◌, ◌+◌, inl, inr, ℕ, Option, Some, None, List, [], ◌∷◌, ◌++◌, map, refl, sym, ◌∙◌, ap, subst, arith, append_assoc}
use Rattle.std.specs.Prelude.{Contains}
use Rattle.std.specs.List.{AllByRecursion}
use Rattle.std.proofs.lemmas.List.Elements.{Contains-append_left, Contains-append_right, Contains-push}
use Rattle.audit_model.specs.declared.certificate.Certificate.{Certificate}
use Rattle.audit_model.specs.declared.certificate.CertLane.{CertLane}
use Rattle.audit_model.specs.declared.sighting.SightId.{SightId}
use Rattle.audit_model.specs.declared.verdict.Breach.{Breach}
use Rattle.audit_model.specs.Clash.{ShowsClash}
use Rattle.audit_model.specs.Least.{IsLeast}
use Rattle.audit_rules.specs.Keys.{KeyFor}
use Rattle.audit_sightings.specs.Intake.{Taken}
use Rattle.audit_placement.specs.Entries.{lane_entries}
use Rattle.audit_placement.specs.Cuts.{ShowsCut}
use Rattle.audit_placement.specs.Shows.{Shows, ShowsPlaced, ShowsAnUnplaced}
use Rattle.audit_placement.proofs.CutSteps.{none_cut}
use Rattle.audit_server.specs.Step.{Step}
use Rattle.audit_server.specs.Rules.{Rules}
use Rattle.audit_model.specs.declared.pair.Pair.{Pair}
use Rattle.audit_server.specs.State.{at_first}
use Rattle.audit_server.specs.Placed.{Placed, step_of, Runs, led, Rises}
use Rattle.audit_server.specs.Run.{IsRun}
use Rattle.audit_server.specs.Glued.{joined}
use Rattle.audit_server.specs.Placing.{places, times_placed}
use Rattle.audit_server.specs.Whole.{EachRuns, all_tenancies}
use Rattle.audit_server.proofs.Orders.{all_left}
use Rattle.audit_server.proofs.Sorting.{count_cons}
use Rattle.audit_server.proofs.Whole.{OnlyOf}
use Rattle.audit_whole.specs.Glued.{placed_of, lanes_from, the_drops, by_lane}
use Rattle.audit_whole.specs.CaptureRun.{rules_for}
use Rattle.audit_sightings.specs.Intake.{AreNumbered}
use Rattle.audit_whole.specs.Passes.{Passes}
use Rattle.audit_whole.proofs.Listing.{joined_is}
use Rattle.audit_whole.proofs.Conforming.{contained_all}
use Rattle.audit_prefix.specs.Prefix.{PassesSoFar, EachGoes}
use Rattle.audit_prefix.specs.Walk.{Owing, Memory, nothing_yet, remembered, remembered_all, AllGoOn, Walks, end_of, lane_breach}
use Rattle.audit_prefix.specs.Breaches.{OrElse, LeastOf, ForEach, OutcomeSoFar, OutcomeOfEnd, Outcome, LiveBreach, IsVerdict, LeftAtTheEnd}
use Rattle.audit_prefix.proofs.Extending.{only_of}
use Rattle.audit_prefix.proofs.Sound.{sound_so_far, rise_so_far, once_so_far}
use Rattle.audit_prefix.proofs.Walking.{Matches, matches_first, runs_of_going, going_of_runs, matches_all, owing_of, nothing_owing}

not_some : {A : Type 0} (x : A) → None ≡ Some x → ⊥
not_some x e = let k : None ≡ Some x = e in cc

-- ---- a walk without a breach

pub going_of_walk : (taken : Taken) (key_for : KeyFor) (es : List Placed) (m : Memory) → Walks taken key_for m es None → AllGoOn (rules_for taken key_for) m es
going_of_walk taken key_for [] m h = tt
going_of_walk taken key_for (e ∷ es) m (inl k) = absurd (not_some _ k.2)
going_of_walk taken key_for (e ∷ es) m (inr k) = (k.0, going_of_walk taken key_for es (remembered (rules_for taken key_for) m e) k.1)

pub walk_of_going : (taken : Taken) (key_for : KeyFor) (es : List Placed) (m : Memory) → AllGoOn (rules_for taken key_for) m es → Walks taken key_for m es None
walk_of_going taken key_for [] m h = refl
walk_of_going taken key_for (e ∷ es) m h = inr (h.0, walk_of_going taken key_for es (remembered (rules_for taken key_for) m e) h.1)

-- ---- each lane by itself

times_append : (s : SightId) (xs ys : List Placed) → times_placed s (map step_of (xs ++ ys)) ≡ times_placed s (map step_of xs) + times_placed s (map step_of ys)
times_append s [] ys = omega arith
times_append s (x ∷ xs) ys = omega (arith, count_cons (λ (d : Step). places s d.move) (step_of x) (map step_of (xs ++ ys)), count_cons (λ (d : Step). places s d.move) (step_of x) (map step_of xs), times_append s xs ys)

from_first : (es : List Placed) → AllByRecursion (λ (e : Placed). at_first.now ≤ e.at.key.moment) es
from_first [] = tt
from_first (e ∷ es) = (omega arith, from_first es)

module _ (taken : Taken) (key_for : KeyFor) where
  abbrev w : Rules
  w = rules_for taken key_for

  abbrev events_of : ℕ → CertLane → List Placed
  events_of n lane = map placed_of (lane_entries n lane)

  abbrev pair_of : CertLane → Pair
  pair_of lane = record { client = lane.client; listen = lane.listen }

  acts_of : (n : ℕ) (lane : CertLane) → AllByRecursion (λ (e : Placed). OnlyOf (pair_of lane) e.move) (events_of n lane)
  acts_of n lane = only_of (record { client = lane.client; listen = lane.listen }) n 0 None lane.events

  lane_runs : (n : ℕ) (lane : CertLane) → Rises (events_of n lane) → ((s : SightId) → times_placed s (map step_of (events_of n lane)) ≤ 1) → OutcomeSoFar taken key_for (events_of n lane) None → Runs w at_first (events_of n lane)
  lane_runs n lane r once h = runs_of_going w (pair_of lane) (events_of n lane) nothing_yet (λ _. 0) at_first (matches_first w (pair_of lane)) (acts_of n lane) (λ s. omega (arith, once s)) r (from_first (events_of n lane)) (going_of_walk taken key_for (events_of n lane) nothing_yet h)

  lane_goes : (n : ℕ) (lane : CertLane) → ((s : SightId) → times_placed s (map step_of (events_of n lane)) ≤ 1) → Runs w at_first (events_of n lane) → OutcomeSoFar taken key_for (events_of n lane) None
  lane_goes n lane once h = walk_of_going taken key_for (events_of n lane) nothing_yet (going_of_runs w (pair_of lane) (events_of n lane) nothing_yet (λ _. 0) at_first (matches_first w (pair_of lane)) (acts_of n lane) (λ s. omega (arith, once s)) h)

  lane_matches : (n : ℕ) (lane : CertLane) → ((s : SightId) → times_placed s (map step_of (events_of n lane)) ≤ 1) → OutcomeSoFar taken key_for (events_of n lane) None →
      (now : SightId → ℕ) × Matches w (pair_of lane) (remembered_all w nothing_yet (events_of n lane)) now (led w at_first (events_of n lane))
  lane_matches n lane once h = matches_all w (pair_of lane) (events_of n lane) nothing_yet (λ _. 0) at_first (matches_first w (pair_of lane)) (acts_of n lane) (λ s. omega (arith, once s)) (going_of_walk taken key_for (events_of n lane) nothing_yet h)

  none_of_end : (os : List Owing) → None ≡ end_of taken key_for os → os ≡ []
  none_of_end [] h = refl
  none_of_end (o ∷ os) h = absurd (not_some (lane_breach taken key_for o.at o.sight _) h)

  abbrev pub OnceIn : List (List Placed) → Type 0
  OnceIn ls = (s : SightId) → times_placed s (map step_of (joined ls)) ≤ 1

  head_once : (l : List Placed) (ls : List (List Placed)) → OnceIn (l ∷ ls) → (s : SightId) → times_placed s (map step_of l) ≤ 1
  head_once l ls h s = omega (arith, h s, times_append s l (joined ls))

  tail_once : (l : List Placed) (ls : List (List Placed)) → OnceIn (l ∷ ls) → OnceIn ls
  tail_once l ls h s = omega (arith, h s, times_append s l (joined ls))

  -- ---- outcomes that are none

  abbrev pub AllNone : List (Option Breach) → Type 0
  AllNone os = AllByRecursion (λ (o : Option Breach). o ≡ None) os

  in_front : {A : Type 0} (x : A) (xs : List A) → Contains (x ∷ xs) x
  in_front x xs = Contains-append_left (x ∷ []) xs x (Contains-push [] x)

  pub all_none : (os : List (Option Breach)) → ((b : Breach) → ¬ Contains os (Some b)) → AllNone os
  all_none [] f = tt
  all_none (o ∷ os) f = (by_option o (λ b e. f b (subst (λ (x : Option Breach). Contains (x ∷ os) (Some b)) (sym e) (in_front (Some b) os))), all_none os (λ b c. f b (Contains-append_right (o ∷ []) os (Some b) c))) where
    by_option : (x : Option Breach) → ((b : Breach) → x ≡ Some b → ⊥) → x ≡ None
    by_option None g = refl
    by_option (Some b) g = absurd (g b refl)

  none_in : (os : List (Option Breach)) → AllNone os → (b : Breach) → ¬ Contains os (Some b)
  none_in os h b c = not_some b (sym (contained_all (λ (o : Option Breach). o ≡ None) os (Some b) h c))

  -- ---- all lanes

  pub goes_all : (n : ℕ) (lanes : List CertLane) → AllByRecursion Rises (lanes_from n lanes) → OnceIn (lanes_from n lanes) → (os : List (Option Breach)) → ForEach (OutcomeSoFar taken key_for) (lanes_from n lanes) os → AllNone os → EachGoes w (lanes_from n lanes)
  goes_all n [] r once os f h = tt
  goes_all n (lane ∷ lanes) r once [] f h = absurd f
  goes_all n (lane ∷ lanes) r once (o ∷ os) f h = (
    lane_runs n lane r.0 (head_once (events_of n lane) (lanes_from (n + 1) lanes) once) (subst (OutcomeSoFar taken key_for (events_of n lane)) h.0 f.0),
    goes_all (n + 1) lanes r.1 (tail_once (events_of n lane) (lanes_from (n + 1) lanes) once) os f.1 h.1,
  )

  abbrev nones : List CertLane → List (Option Breach)
  nones [] = []
  nones (lane ∷ lanes) = None ∷ nones lanes

  nones_none : (lanes : List CertLane) → AllNone (nones lanes)
  nones_none [] = tt
  nones_none (lane ∷ lanes) = (refl, nones_none lanes)

  walk_all : (n : ℕ) (lanes : List CertLane) → OnceIn (lanes_from n lanes) → EachGoes w (lanes_from n lanes) → ForEach (OutcomeSoFar taken key_for) (lanes_from n lanes) (nones lanes)
  walk_all n [] once h = tt
  walk_all n (lane ∷ lanes) once h = (
    lane_goes n lane (head_once (events_of n lane) (lanes_from (n + 1) lanes) once) h.0,
    walk_all (n + 1) lanes (tail_once (events_of n lane) (lanes_from (n + 1) lanes) once) h.1,
  )

  -- of those that came so far, what is owed at the end is the outcome
  ends_all : (ls : List (List Placed)) (os ps : List (Option Breach)) → ForEach (OutcomeSoFar taken key_for) ls os → AllNone os → ForEach (OutcomeOfEnd taken key_for) ls ps → ForEach (Outcome taken key_for) ls ps
  ends_all [] os [] f h g = tt
  ends_all [] os (p ∷ ps) f h g = absurd g
  ends_all (l ∷ ls) [] ps f h g = absurd f
  ends_all (l ∷ ls) (o ∷ os) [] f h g = absurd g
  ends_all (l ∷ ls) (o ∷ os) (p ∷ ps) f h g = (inr (subst (OutcomeSoFar taken key_for l) h.0 f.0, g.0), ends_all ls os ps f.1 h.1 g.1)

  runs_all : (n : ℕ) (lanes : List CertLane) → AllByRecursion Rises (lanes_from n lanes) → OnceIn (lanes_from n lanes) → (os : List (Option Breach)) → ForEach (Outcome taken key_for) (lanes_from n lanes) os → AllNone os → EachRuns w (lanes_from n lanes)
  runs_all n [] r once os f h = tt
  runs_all n (lane ∷ lanes) r once [] f h = absurd f
  runs_all n (lane ∷ lanes) r once (o ∷ os) f h = (
    by_outcome (subst (Outcome taken key_for (events_of n lane)) h.0 f.0),
    runs_all (n + 1) lanes r.1 (tail_once (events_of n lane) (lanes_from (n + 1) lanes) once) os f.1 h.1,
  ) where
    by_outcome : Outcome taken key_for (events_of n lane) None → IsRun w (map step_of (events_of n lane))
    by_outcome (inl k) = absurd (not_some k.0 k.2)
    by_outcome (inr k) =
        let few = head_once (events_of n lane) (lanes_from (n + 1) lanes) once in
        let matches = lane_matches n lane few k.0 in
        record {
          runs = lane_runs n lane r.0 few k.0;
          nothing_owed = nothing_owing w (pair_of lane) (remembered_all w nothing_yet (events_of n lane)) matches.0 (led w at_first (events_of n lane)) matches.1 (none_of_end (remembered_all w nothing_yet (events_of n lane)).owing k.1);
        }

  judged_all : (n : ℕ) (lanes : List CertLane) → OnceIn (lanes_from n lanes) → EachRuns w (lanes_from n lanes) → ForEach (Outcome taken key_for) (lanes_from n lanes) (nones lanes)
  judged_all n [] once h = tt
  judged_all n (lane ∷ lanes) once h =
      let few = head_once (events_of n lane) (lanes_from (n + 1) lanes) once in
      let goes : OutcomeSoFar taken key_for (events_of n lane) None = lane_goes n lane few h.0.runs in
      let matches = lane_matches n lane few goes in
      let none : (remembered_all w nothing_yet (events_of n lane)).owing ≡ [] = owing_of w (pair_of lane) (remembered_all w nothing_yet (events_of n lane)) matches.0 (led w at_first (events_of n lane)) matches.1 h.0.nothing_owed in (
        inr (goes, ap (end_of taken key_for) (sym none)),
        judged_all (n + 1) lanes (tail_once (events_of n lane) (lanes_from (n + 1) lanes) once) h.1,
      )

module _ (taken : Taken) (numbered : AreNumbered taken) (key_for : KeyFor) (certificate : Certificate) where
  abbrev lanes : List (List Placed)
  lanes = lanes_from 0 certificate.lanes

  abbrev tenancies : Breach → Type 0
  tenancies = ShowsClash (all_tenancies (rules_for taken key_for) lanes)

  pub rise_lanes : ((b : Breach) → ¬ ShowsPlaced taken certificate b) → AllByRecursion Rises lanes
  rise_lanes none = all_left Rises lanes (the_drops certificate ∷ []) (rise_so_far taken numbered certificate (sound_so_far taken certificate none))

  joined_append : (xs : List (List Placed)) (y : List Placed) → joined (xs ++ y ∷ []) ≡ joined xs ++ joined (y ∷ [])
  joined_append [] y = refl
  joined_append (x ∷ xs) y = ap (λ zs. x ++ zs) (joined_append xs y) ∙ sym (append_assoc x (joined xs) (joined (y ∷ [])))

  pub once_lanes : ((b : Breach) → ¬ ShowsPlaced taken certificate b) → OnceIn taken key_for lanes
  once_lanes none s =
      let all : times_placed s (map step_of (joined (by_lane certificate))) ≤ 1 = subst (λ (es : List Placed). times_placed s (map step_of es) ≤ 1) (sym (joined_is certificate)) (once_so_far taken numbered certificate (sound_so_far taken certificate none) s) in
      omega (arith, all, ap (λ es. times_placed s (map step_of es)) (joined_append lanes (the_drops certificate)), times_append s (joined lanes) (joined (the_drops certificate ∷ [])))

  -- no breach is reported exactly if all passes so far
  pub record NoBreach : Type 0 where
    pub placement : (b : Breach) → ¬ ShowsPlaced taken certificate b
    pub outcomes : List (Option Breach)
    pub walked : ForEach (OutcomeSoFar taken key_for) lanes outcomes
    pub none : AllNone taken key_for outcomes
    pub clashes : (b : Breach) → ¬ tenancies b

  pub no_breach : LiveBreach taken key_for certificate None → NoBreach
  no_breach (Some b, least, rest) = absurd (not_some b rest)
  no_breach (None, least, (Some b, each, rest)) = absurd (not_some b rest)
  no_breach (None, least, (None, each, rest)) = record { placement = least; outcomes = each.outcomes; walked = each.each; none = all_none taken key_for each.outcomes each.least; clashes = rest }

  pub passes_of_none : LiveBreach taken key_for certificate None → PassesSoFar taken (rules_for taken key_for) certificate
  passes_of_none h =
      let t : NoBreach = no_breach h in
      record {
        placement = t.placement;
        lanes = goes_all taken key_for 0 certificate.lanes (rise_lanes t.placement) (once_lanes t.placement) t.outcomes t.walked t.none;
        tenancies = t.clashes;
      }

  pub none_of_passes : PassesSoFar taken (rules_for taken key_for) certificate → LiveBreach taken key_for certificate None
  none_of_passes p = (
    None,
    p.placement,
    (
      None,
      record {
        outcomes = nones taken key_for certificate.lanes;
        each = walk_all taken key_for 0 certificate.lanes (once_lanes p.placement) p.lanes;
        least = none_in taken key_for (nones taken key_for certificate.lanes) (nones_none taken key_for certificate.lanes);
      },
      p.tenancies,
    ),
  )

  -- ---- at the end

  is_unplaced : ((b : Breach) → ¬ ShowsPlaced taken certificate b) → ((b : Breach) → ¬ ShowsCut taken certificate b) → (b : Breach) → Shows taken certificate b → ShowsAnUnplaced taken certificate b
  is_unplaced none uncut b (inl (inl shown)) = absurd (none b shown)
  is_unplaced none uncut b (inl (inr shown)) = shown
  is_unplaced none uncut b (inr shown) = absurd (uncut b shown)

  least_of_both : ((b : Breach) → ¬ ShowsPlaced taken certificate b) → certificate.skews ≡ [] → (first : Option Breach) → IsLeast (ShowsAnUnplaced taken certificate) first → IsLeast (Shows taken certificate) first
  least_of_both none skews None h = λ b k. h b (is_unplaced none (none_cut taken certificate skews) b k)
  least_of_both none skews (Some first) h = (inl (inr h.0), λ b k. h.1 b (is_unplaced none (none_cut taken certificate skews) b k))

  ends_judged : NoBreach → (found : Option Breach) → LeastOf (ForEach (OutcomeOfEnd taken key_for) lanes) found → LeastOf (ForEach (Outcome taken key_for) lanes) found
  ends_judged t found e = record { outcomes = e.outcomes; each = ends_all taken key_for lanes t.outcomes e.outcomes t.walked t.none e.each; least = e.least }

  last_phase : NoBreach → (found : Option Breach) → OrElse found (IsLeast tenancies) found
  last_phase t None = t.clashes
  last_phase t (Some b) = refl

  pub verdict_at_the_end : certificate.skews ≡ [] → LiveBreach taken key_for certificate None → (found : Option Breach) → LeftAtTheEnd taken key_for certificate found → IsVerdict taken key_for certificate found
  verdict_at_the_end skews h found (Some b, least, rest) = (Some b, least_of_both (no_breach h).placement skews (Some b) least, rest)
  verdict_at_the_end skews h found (None, least, rest) =
      let t : NoBreach = no_breach h in
      (None, least_of_both t.placement skews None least, (found, ends_judged t found rest, last_phase t found))

  -- ---- a verdict without a breach

  pub passes_of_verdict : IsVerdict taken key_for certificate None → Passes taken (rules_for taken key_for) certificate
  passes_of_verdict (Some b, least, rest) = absurd (not_some b rest)
  passes_of_verdict (None, least, (Some b, each, rest)) = absurd (not_some b rest)
  passes_of_verdict (None, least, (None, each, rest)) =
      let placement : (b : Breach) → ¬ ShowsPlaced taken certificate b = λ b k. least b (inl (inl k)) in
      record {
        placement = least;
        lanes = runs_all taken key_for 0 certificate.lanes (rise_lanes placement) (once_lanes placement) each.outcomes each.each (all_none taken key_for each.outcomes each.least);
        tenancies = rest;
      }

  pub verdict_of_passes : Passes taken (rules_for taken key_for) certificate → IsVerdict taken key_for certificate None
  verdict_of_passes p =
      let placement : (b : Breach) → ¬ ShowsPlaced taken certificate b = λ b k. p.placement b (inl (inl k)) in (
        None,
        p.placement,
        (
          None,
          record {
            outcomes = nones taken key_for certificate.lanes;
            each = judged_all taken key_for 0 certificate.lanes (once_lanes placement) p.lanes;
            least = none_in taken key_for (nones taken key_for certificate.lanes) (nones_none taken key_for certificate.lanes);
          },
          p.tenancies,
        ),
      )
