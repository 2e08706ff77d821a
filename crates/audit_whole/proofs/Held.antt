-- What a lane's tenancies hold is what its client has in the one table, at each move of the glued list.
use Rattle.std.proofs.Common.{◌≡◌, ◌≢◌, ◌↔◌, ℕ, Some, List, [], ◌∷◌, ◌++◌, map, sym, subst}
use Rattle.std.specs.List.{AllByRecursion}
use Rattle.audit_model.specs.declared.address.Addr.{Addr}
use Rattle.audit_model.specs.declared.certificate.Certificate.{Certificate}
use Rattle.audit_model.specs.declared.pair.Pair.{Pair}
use Rattle.audit_sightings.specs.Intake.{Taken, sighting_at}
use Rattle.audit_rules.specs.Keys.{KeyFor}
use Rattle.audit_server.specs.Glued.{joined, sorted}
use Rattle.audit_server.specs.Homes.{AreOfPairs, IsOfPair}
use Rattle.audit_server.specs.Placed.{Placed, Rises, of_lane, state_after, step_of}
use Rattle.audit_server.specs.Rules.{Rules}
use Rattle.audit_server.specs.Holding.{AnyOf, HoldsAt}
use Rattle.audit_server.specs.Run.{HasAddress, IsRun}
use Rattle.audit_server.specs.Tenancies.{tenancies}
use Rattle.audit_server.specs.Whole.{EachRuns}
use Rattle.audit_server.proofs.Lawful.{lawful}
use Rattle.audit_server.proofs.Orders.{all_append, all_right}
use Rattle.audit_server.proofs.Sorting.{all_sorted, each_lane}
use Rattle.audit_server.proofs.Verdict.{run_nil, same_lanes, glued_rises}
use Rattle.audit_server.proofs.Whole.{held as held_at}
use Rattle.audit_whole.specs.CaptureRun.{rules_for}
use Rattle.audit_whole.specs.Glued.{lanes_from, the_drops, by_lane, all_placed, glued, pairs_of}
use Rattle.audit_whole.proofs.Conforming.{run_of_drops}
use Rattle.audit_whole.proofs.Listing.{joined_is, numbered, of_pairs, distinct_pairs}

module _ (taken : Taken) (key_for : KeyFor) (certificate : Certificate) (rise : AllByRecursion Rises (by_lane certificate)) (each : EachRuns (rules_for taken key_for) (lanes_from 0 certificate.lanes)) where
  abbrev w : Rules
  w = rules_for taken key_for

  all_run : EachRuns w (by_lane certificate)
  all_run = all_append (λ (l : List Placed). IsRun w (map step_of l)) (lanes_from 0 certificate.lanes) (the_drops certificate ∷ []) each (run_of_drops w certificate (all_right Rises (lanes_from 0 certificate.lanes) (the_drops certificate ∷ []) rise).0, tt)

  lane_runs : (lane : ℕ) → IsRun w (map step_of (of_lane lane (sorted (joined (by_lane certificate)))))
  lane_runs lane = subst (λ (l : List Placed). IsRun w (map step_of l)) (sym (same_lanes (by_lane certificate) (numbered certificate) rise lane)) (each_lane (λ (l : List Placed). IsRun w (map step_of l)) (run_nil w) 0 (by_lane certificate) (numbered certificate) all_run lane)

  glued_runs : (lane : ℕ) → IsRun w (map step_of (of_lane lane (glued certificate)))
  glued_runs lane = subst (λ (es : List Placed). IsRun w (map step_of (of_lane lane (sorted es)))) (joined_is certificate) (lane_runs lane)

  pub rises : Rises (glued certificate)
  rises = subst (λ (es : List Placed). Rises (sorted es)) (joined_is certificate) (glued_rises (by_lane certificate) (numbered certificate) rise)

  pairs : AreOfPairs (pairs_of certificate) (glued certificate)
  pairs = all_sorted (λ e. IsOfPair (pairs_of certificate) e.at.lane e.move) (all_placed certificate) (of_pairs certificate)

  pub held : (before : List Placed) (event : Placed) (rest : List Placed) → before ++ event ∷ rest ≡ glued certificate → (other : ℕ) (pair : Pair) → pairs_of certificate other ≡ Some pair → event.at.lane ≢ other → (relayed : Addr) →
      HasAddress taken.policy.grace event.at.key.moment relayed ((state_after w before).table pair) ↔ AnyOf (HoldsAt event.at relayed) (tenancies w other (glued certificate))
  held before event rest parts other pair is ne relayed =
      subst (λ (es : List Placed). HasAddress taken.policy.grace event.at.key.moment relayed ((state_after w before).table pair) ↔ AnyOf (HoldsAt event.at relayed) (tenancies w other es)) parts
      (held_at w (lawful taken.policy key_for (sighting_at taken)) (pairs_of certificate) (distinct_pairs certificate) before event rest
      (subst Rises (sym parts) rises) (subst (AreOfPairs (pairs_of certificate)) (sym parts) pairs) other pair is ne
      (subst (λ (es : List Placed). IsRun w (map step_of (of_lane other es))) (sym parts) (glued_runs other)).runs relayed)
