-- What passes is the front of a run.
use Rattle.std.proofs.Common.{◌≡◌, ◌≤◌, ℕ, List, [], ◌∷◌, map, refl, sym, subst}
use Rattle.std.specs.List.{AllByRecursion}
use Rattle.audit_model.specs.declared.certificate.Certificate.{Certificate}
use Rattle.audit_model.specs.declared.sighting.SightId.{SightId}
use Rattle.audit_rules.specs.Keys.{KeyFor}
use Rattle.audit_sightings.specs.Intake.{Taken, sighting_at}
use Rattle.audit_placement.specs.Entries.{entries}
use Rattle.audit_server.specs.Step.{Step}
use Rattle.audit_server.specs.Rules.{Rules}
use Rattle.audit_server.specs.State.{at_first}
use Rattle.audit_server.specs.Placed.{Placed, step_of, Runs, Rises}
use Rattle.audit_server.specs.Homes.{AreOfPairs, IsOfPair}
use Rattle.audit_server.specs.Lawful.{AreLawful}
use Rattle.audit_server.specs.Glued.{joined, sorted}
use Rattle.audit_server.specs.Placing.{places, times_placed}
use Rattle.audit_server.specs.Whole.{all_tenancies, ClashNowhere}
use Rattle.audit_server.proofs.Orders.{all_append, all_right}
use Rattle.audit_server.proofs.Sorting.{all_sorted, count_sorted, each_lane}
use Rattle.audit_server.proofs.Verdict.{from_nowhere, clash_moves, same_lanes, glued_rises, all_steps}
use Rattle.audit_server.proofs.Lawful.{lawful}
use Rattle.audit_whole.specs.Glued.{lanes_from, the_drops, by_lane, all_placed, glued, glued_steps, pairs_of}
use Rattle.audit_whole.specs.CaptureRun.{rules_for, MayBePlaced}
use Rattle.audit_sightings.specs.Intake.{AreNumbered}
use Rattle.audit_whole.proofs.Listing.{joined_is, numbered as lists_numbered, of_pairs, distinct_pairs}
use Rattle.audit_whole.proofs.Conforming.{lane_tenancies, nowhere_of, run_of_drops}
use Rattle.audit_prefix.specs.Apart.{RunsApart, none_yet}
use Rattle.audit_prefix.specs.Prefix.{IsPrefix, PassesSoFar}
use Rattle.audit_prefix.proofs.Sharing.{Lanes, runs_apart}
use Rattle.audit_prefix.proofs.Sound.{SoundSoFar, sound_so_far, order_sorted, seen_so_far, rise_so_far, once_so_far}

module _ (taken : Taken) (numbered : AreNumbered taken) (key_for : KeyFor) (certificate : Certificate) (horizon : ℕ) where
  law : AreLawful (rules_for taken key_for)
  law = lawful taken.policy key_for (sighting_at taken)

  pairs_joined : AreOfPairs (pairs_of certificate) (joined (by_lane certificate))
  pairs_joined = subst (AreOfPairs (pairs_of certificate)) (sym (joined_is certificate)) (of_pairs certificate)

  pub prefix_of : PassesSoFar taken (rules_for taken key_for) certificate → AllByRecursion (λ (e : Placed). e.at.key.moment ≤ horizon) (all_placed certificate) → IsPrefix taken (rules_for taken key_for) certificate horizon
  prefix_of p by_then =
      let w : Rules = rules_for taken key_for in
      let ls : List (List Placed) = by_lane certificate in
      let s : SoundSoFar taken (entries certificate) = sound_so_far taken certificate p.placement in
      let rise : AllByRecursion Rises ls = rise_so_far taken numbered certificate s in
      let drop_rises : Rises (the_drops certificate) = (all_right Rises (lanes_from 0 certificate.lanes) (the_drops certificate ∷ []) rise).0 in
      let each : AllByRecursion (Runs w at_first) ls = all_append (Runs w at_first) (lanes_from 0 certificate.lanes) (the_drops certificate ∷ []) p.lanes ((run_of_drops w certificate drop_rises).runs, tt) in
      let nowhere : ClashNowhere (all_tenancies w ls) = subst ClashNowhere (sym (lane_tenancies w certificate)) (nowhere_of (all_tenancies w (lanes_from 0 certificate.lanes)) p.tenancies) in
      let all : List Placed = sorted (joined ls) in
      let same : all ≡ glued certificate = rw (joined_is certificate) refl in
      let rises : Rises all = glued_rises ls (lists_numbered certificate) rise in
      let lanes : Lanes w (pairs_of certificate) all = record {
        rises = rises;
        of_pairs = all_sorted (λ (e : Placed). IsOfPair (pairs_of certificate) e.at.lane e.move) (joined ls) pairs_joined;
        runs = λ lane. subst (λ (l : List Placed). Runs w at_first l) (sym (same_lanes ls (lists_numbered certificate) rise lane)) (each_lane (Runs w at_first) tt 0 ls (lists_numbered certificate) each lane);
        apart = clash_moves w (joined ls) all (λ i. sym (same_lanes ls (lists_numbered certificate) rise i)) (from_nowhere w ls (lists_numbered certificate) nowhere);
      } in
      let once : (x : SightId) → times_placed x (glued_steps certificate) ≤ 1 = λ x. subst (λ (n : ℕ). n ≤ 1) (sym (count_sorted (λ (e : Step). places x e.move) (all_placed certificate))) (once_so_far taken numbered certificate s x) in
      record {
        once = once;
        seen = all_steps (λ (e : Step). MayBePlaced taken e.moment e.move) (glued certificate) (all_sorted (λ (e : Placed). MayBePlaced taken e.at.key.moment e.move) (all_placed certificate) (seen_so_far taken numbered certificate s));
        order = order_sorted taken numbered certificate s (subst Rises same rises);
        by_then = all_steps (λ (e : Step). e.moment ≤ horizon) (glued certificate) (all_sorted (λ (e : Placed). e.at.key.moment ≤ horizon) (all_placed certificate) by_then);
        run = subst (RunsApart w none_yet) same (runs_apart w law (pairs_of certificate) (distinct_pairs certificate) all (λ x. subst (λ (es : List Placed). times_placed x (map step_of es) ≤ 1) (sym same) (once x)) lanes);
      }
