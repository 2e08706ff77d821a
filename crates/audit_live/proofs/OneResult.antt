-- A breach is reported, or none is.
use Rattle.std.proofs.Common.{◌≡◌, ◌∷◌, [], List, Option, Some, None, refl, subst}
use Rattle.std.specs.Prelude.{Contains}
use Rattle.std.proofs.lemmas.Option.{none-some}
use Rattle.audit_model.specs.declared.certificate.Certificate.{Certificate}
use Rattle.audit_model.specs.declared.verdict.Breach.{Breach}
use Rattle.audit_model.specs.Clash.{ShowsClash}
use Rattle.audit_model.specs.Least.{IsLeast}
use Rattle.audit_placement.specs.Shows.{ShowsPlaced}
use Rattle.audit_prefix.specs.Breaches.{ForEach, LeastOf, LiveBreach, OrElse, OutcomeSoFar}
use Rattle.audit_prefix.specs.Walk.{HaveBytes, nothing_yet}
use Rattle.audit_prefix.proofs.Deciding.{one_outcome}
use Rattle.audit_rules.specs.Keys.{KeyFor}
use Rattle.audit_server.specs.Placed.{Placed}
use Rattle.audit_server.specs.Whole.{all_tenancies}
use Rattle.audit_sightings.specs.Intake.{Taken}
use Rattle.audit_whole.specs.CaptureRun.{rules_for}
use Rattle.audit_whole.specs.Glued.{lanes_from}

-- of one fact, there is none that is shown, and one that is
not_both_least : (Shown : Breach → Type 0) (b : Breach) → IsLeast Shown None → IsLeast Shown (Some b) → ⊥
not_both_least Shown b none least = none b least.0

module _ (taken : Taken) (key_for : KeyFor) (bytes : HaveBytes taken) where
  -- the outcomes of lanes are one
  same_outcomes : (lanes : List (List Placed)) (one other : List (Option Breach)) → ForEach (OutcomeSoFar taken key_for) lanes one → ForEach (OutcomeSoFar taken key_for) lanes other → one ≡ other
  same_outcomes [] [] [] f g = refl
  same_outcomes [] [] (p ∷ ps) f g = absurd g
  same_outcomes [] (o ∷ os) other f g = absurd f
  same_outcomes (lane ∷ lanes) [] other f g = absurd f
  same_outcomes (lane ∷ lanes) (o ∷ os) [] f g = absurd g
  same_outcomes (lane ∷ lanes) (o ∷ os) (p ∷ ps) f g =
      let here : o ≡ p = one_outcome taken key_for bytes lane nothing_yet o p f.0 g.0 in
      let rest = same_outcomes lanes os ps f.1 g.1 in
      λ i. here i ∷ rest i

  abbrev Lanes : Certificate → List (Option Breach) → Type 0
  Lanes certificate = ForEach (OutcomeSoFar taken key_for) (lanes_from 0 certificate.lanes)

  abbrev Clash : Certificate → Breach → Type 0
  Clash certificate = ShowsClash (all_tenancies (rules_for taken key_for) (lanes_from 0 certificate.lanes))

  by_clashes : (certificate : Certificate) (b : Breach) (second third : Option Breach) → LeastOf (Lanes certificate) second → OrElse second (IsLeast (Clash certificate)) None
      → LeastOf (Lanes certificate) third → OrElse third (IsLeast (Clash certificate)) (Some b) → ⊥
  by_clashes certificate b (Some c) third none none_reported some reports = none-some c none_reported
  by_clashes certificate b None (Some c) none none_reported some reports =
      none.least c (subst (λ (os : List (Option Breach)). Contains os (Some c)) (same_outcomes (lanes_from 0 certificate.lanes) some.outcomes none.outcomes some.each none.each) some.least.0)
  by_clashes certificate b None None none none_reported some reports = not_both_least (Clash certificate) b none_reported reports

  pub not_both_results : (certificate : Certificate) (b : Breach) → LiveBreach taken key_for certificate None → LiveBreach taken key_for certificate (Some b) → ⊥
  not_both_results certificate b (Some c, least, reports) other = none-some c reports
  not_both_results certificate b (None, none, (second, of_lanes, clashes)) (Some c, least, reports) = not_both_least (ShowsPlaced taken certificate) c none least
  not_both_results certificate b (None, none, (second, of_lanes, clashes)) (None, least, (third, others, reports)) = by_clashes certificate b second third of_lanes clashes others reports
