-- What a turn shows is the breach of the certificate as it stands then.
use Rattle.std.proofs.Common.{◌≡◌, ◌↔◌, inr, ℕ, Option, Some, None, List, [], ◌∷◌, ◌++◌, ◌+◌, ◌<◌, map, refl, sym, subst}
use Rattle.std.specs.Prelude.{Contains, IfSome}
use Rattle.std.specs.List.{AllByRecursion}
use Rattle.audit_model.specs.declared.address.Addr.{Addr}
use Rattle.audit_model.specs.declared.event.Event.{Event}
use Rattle.audit_model.specs.declared.certificate.Certificate.{Certificate}
use Rattle.audit_model.specs.declared.certificate.CertLane.{CertLane}
use Rattle.audit_model.specs.declared.extension.Extension.{Extension}
use Rattle.audit_model.specs.declared.verdict.Breach.{Breach}
use Rattle.audit_model.specs.declared.verdict.Tenancy.{Tenancy}
use Rattle.audit_model.specs.Clash.{ShowsClash}
use Rattle.audit_model.specs.Least.{IsLeast}
use Rattle.audit_rules.specs.Keys.{KeyFor}
use Rattle.audit_sightings.specs.Intake.{Taken, sighting_at}
use Rattle.audit_order.specs.Grown.{empty_lane, Extends}
use Rattle.audit_server.specs.Rules.{Rules}
use Rattle.audit_server.specs.Placed.{Placed}
use Rattle.audit_server.specs.Whole.{all_tenancies, ClashNowhere}
use Rattle.audit_server.proofs.Lawful.{lawful}
use Rattle.audit_whole.specs.Glued.{placed_of, lanes_from}
use Rattle.audit_whole.proofs.Conforming.{nowhere_of}
use Rattle.audit_placement.specs.Entries.{lane_entries}
use Rattle.audit_whole.specs.CaptureRun.{rules_for}
use Rattle.audit_sightings.specs.Intake.{AreNumbered}
use Rattle.audit_prefix.specs.Advance.{StandsByLast, OfMoments}
use Rattle.audit_prefix.specs.Prefix.{EachGoes}
use Rattle.audit_prefix.specs.Turn.{Turn, Covers, turns_from, turns_of}
use Rattle.audit_prefix.specs.Walk.{Memory, nothing_yet, remembered, remembered_all, AllGoOn, Walks}
use Rattle.audit_prefix.specs.Breaches.{LeastOf, ForEach, OutcomeSoFar, LiveBreach, ForEachTurn, IsBreachOfTurn}
use Rattle.audit_prefix.proofs.Continuing.{befores, wholes, enough}
use Rattle.audit_prefix.proofs.Extending.{new_lanes_are, turns_come, befores_are, lanes_by}
use Rattle.audit_prefix.proofs.Covering.{IsNew, all_checked, enough_of}
use Rattle.audit_prefix.proofs.Passing.{AllNone, no_breach, going_of_walk, goes_all, rise_lanes, once_lanes, all_none}

walk_join : (taken : Taken) (key_for : KeyFor) (p q : List Placed) (m : Memory) (found : Option Breach) → AllGoOn (rules_for taken key_for) m p → Walks taken key_for (remembered_all (rules_for taken key_for) m p) q found → Walks taken key_for m (p ++ q) found
walk_join taken key_for [] q m found g h = h
walk_join taken key_for (e ∷ p) q m found g h = inr (g.0, walk_join taken key_for p q (remembered (rules_for taken key_for) m e) found g.1 h)

abbrev GoesSoFar : Taken → KeyFor → Turn → Type 0
GoesSoFar taken key_for turn = Walks taken key_for nothing_yet turn.before None

module _ (taken : Taken) (key_for : KeyFor) where
  -- the lanes that came so far go on from there
  walks_all : (turns : List Turn) (ps : List (Option Breach)) → AllByRecursion (GoesSoFar taken key_for) turns → ForEachTurn taken key_for turns ps → ForEach (OutcomeSoFar taken key_for) (wholes turns) ps
  walks_all [] [] f g = tt
  walks_all [] (p ∷ ps) f g = absurd g
  walks_all (t ∷ ts) [] f g = absurd g
  walks_all (t ∷ ts) (p ∷ ps) f g = (walk_join taken key_for t.before t.more nothing_yet p (going_of_walk taken key_for t.before nothing_yet f.0) g.0, walks_all ts ps f.1 g.1)

  new_go : (n : ℕ) (pairs : List (Addr × Addr)) (es : List (ℕ × Event)) → AllByRecursion (GoesSoFar taken key_for) (turns_from n (map empty_lane pairs) es)
  new_go n [] es = tt
  new_go n (pair ∷ pairs) es = (refl, new_go (n + 1) pairs es)

  old_go : (n : ℕ) (lanes : List CertLane) (pairs : List (Addr × Addr)) (es : List (ℕ × Event)) (os : List (Option Breach)) → ForEach (OutcomeSoFar taken key_for) (lanes_from n lanes) os → AllNone taken key_for os →
      AllByRecursion (GoesSoFar taken key_for) (turns_from n (lanes ++ map empty_lane pairs) es)
  old_go n [] pairs es os f h = new_go n pairs es
  old_go n (lane ∷ lanes) pairs es [] f h = absurd f
  old_go n (lane ∷ lanes) pairs es (o ∷ os) f h = (subst (OutcomeSoFar taken key_for (map placed_of (lane_entries n lane))) h.0 f.0, old_go (n + 1) lanes pairs es os f.1 h.1)

least_by : (P Q : Breach → Type 0) → ((b : Breach) → Q b ↔ P b) → (found : Option Breach) → IsLeast P found → IsLeast Q found
least_by P Q f None h = λ b k. h b ((f b).0 k)
least_by P Q f (Some b) h = ((f b).1 h.0, λ c k. h.1 c ((f c).0 k))

new_turns : (n : ℕ) (pairs : List (Addr × Addr)) (es : List (ℕ × Event)) → AllByRecursion IsNew (turns_from n (map empty_lane pairs) es)
new_turns n [] es = tt
new_turns n (pair ∷ pairs) es = (refl, new_turns (n + 1) pairs es)

all_new : (n : ℕ) (lanes : List CertLane) (pairs : List (Addr × Addr)) (es : List (ℕ × Event)) → AllByRecursion (AllByRecursion (λ (e : Placed). ⊥)) (lanes_from n lanes) → AllByRecursion IsNew (turns_from n (lanes ++ map empty_lane pairs) es)
all_new n [] pairs es h = new_turns n pairs es
all_new n (lane ∷ lanes) pairs es h = (none (map placed_of (lane_entries n lane)) h.0, all_new (n + 1) lanes pairs es h.1) where
  none : (ds : List Placed) → AllByRecursion (λ (e : Placed). ⊥) ds → ds ≡ []
  none [] k = refl
  none (d ∷ ds) k = absurd k.0

module _ (taken : Taken) (numbered : AreNumbered taken) (key_for : KeyFor) (old : Certificate) (extension : Extension) (new : Certificate) (checked : List Tenancy)
    (extends : Extends old extension new) (none : LiveBreach taken key_for old None)
    (no_others : (t : Tenancy) → Contains checked t → Contains (all_tenancies (rules_for taken key_for) (lanes_from 0 new.lanes)) t) where
  abbrev w : Rules
  w = rules_for taken key_for

  old_lanes : AllByRecursion (GoesSoFar taken key_for) (turns_of old extension)
  old_lanes = let t = no_breach taken numbered key_for old none in old_go taken key_for 0 old.lanes extension.lanes extension.events t.outcomes t.walked t.none

  lanes_turn : (ps : List (Option Breach)) → ForEachTurn taken key_for (turns_of old extension) ps → ForEach (OutcomeSoFar taken key_for) (lanes_from 0 new.lanes) ps
  lanes_turn ps h = subst (λ (ls : List (List Placed)). ForEach (OutcomeSoFar taken key_for) ls ps) (sym (new_lanes_are old extension new extends)) (walks_all taken key_for (turns_of old extension) ps old_lanes h)

  clashes : (last : Option ℕ) → StandsByLast last old → OfMoments (λ moment. IfSome last (λ before. before < moment)) extension → Covers w last (turns_of old extension) checked →
      EachGoes w (lanes_from 0 new.lanes) → (b : Breach) → ShowsClash (all_tenancies w (lanes_from 0 new.lanes)) b ↔ ShowsClash checked b
  clashes None by_last past covers goes b =
      let same : lanes_from 0 new.lanes ≡ wholes (turns_of old extension) = new_lanes_are old extension new extends in
      let news : AllByRecursion IsNew (turns_of old extension) = all_new 0 old.lanes extension.lanes extension.events (lanes_by (λ (e : Placed). ⊥) old by_last).0 in
      let checks : (t : Tenancy) → Contains (all_tenancies w (lanes_from 0 new.lanes)) t → Contains checked t = λ t c. all_checked w None (turns_of old extension) checked news covers t (subst (λ (ls : List (List Placed)). Contains (all_tenancies w ls) t) same c) in (
        λ s. (s.0, s.1, checks s.0 s.2, checks s.1 s.3, s.4, s.5),
        λ s. (s.0, s.1, no_others s.0 s.2, no_others s.1 s.3, s.4, s.5),
      )
  clashes (Some last) by_last past covers goes b =
      let same : lanes_from 0 new.lanes ≡ wholes (turns_of old extension) = new_lanes_are old extension new extends in
      let before : all_tenancies w (befores (turns_of old extension)) ≡ all_tenancies w (lanes_from 0 old.lanes) = befores_are w 0 old.lanes extension.lanes extension.events in
      let turns = turns_come old extension new extends w last by_last past goes in
      let t = no_breach taken numbered key_for old none in
      subst (λ (ls : List (List Placed)). ShowsClash (all_tenancies w ls) b ↔ ShowsClash checked b) (sym same)
      (enough w (lawful taken.policy key_for (sighting_at taken)) last 0 (turns_of old extension) turns
      (subst ClashNowhere (sym before) (nowhere_of (all_tenancies w (lanes_from 0 old.lanes)) t.clashes)) checked
      (enough_of w last 0 (turns_of old extension) checked turns (subst (λ (ls : List (List Placed)). (t : Tenancy) → Contains checked t → Contains (all_tenancies w ls) t) same no_others) covers) b)

  turned : (found : Option Breach) → LeastOf (ForEachTurn taken key_for (turns_of old extension)) found → LeastOf (ForEach (OutcomeSoFar taken key_for) (lanes_from 0 new.lanes)) found
  turned found e = record { outcomes = e.outcomes; each = lanes_turn e.outcomes e.each; least = e.least }

  pub breach_of_turn : (last : Option ℕ) → StandsByLast last old → OfMoments (λ moment. IfSome last (λ before. before < moment)) extension → Covers w last (turns_of old extension) checked →
      (found : Option Breach) → IsBreachOfTurn taken key_for old extension new checked found → LiveBreach taken key_for new found
  breach_of_turn last by_last past covers found (Some b, least, rest) = (Some b, least, rest)
  breach_of_turn last by_last past covers found (None, least, (Some b, each, rest)) = (None, least, (Some b, turned (Some b) each, rest))
  breach_of_turn last by_last past covers found (None, least, (None, each, rest)) =
      let goes : EachGoes w (lanes_from 0 new.lanes) = goes_all taken key_for 0 new.lanes (rise_lanes taken numbered key_for new least) (once_lanes taken numbered key_for new least) each.outcomes (lanes_turn each.outcomes each.each) (all_none taken key_for each.outcomes each.least) in
      (None, least, (None, turned None each, least_by (ShowsClash checked) (ShowsClash (all_tenancies w (lanes_from 0 new.lanes))) (clashes last by_last past covers goes) found rest))
