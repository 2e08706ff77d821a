use Rattle.std.proofs.Common.{◌≡◌, ◌≤◌, List, subst}
use Rattle.std.specs.List.{AllByRecursion}
use Rattle.audit_model.specs.declared.verdict.Breach.{Breach}
use Rattle.audit_model.specs.Clash.{ShowsClash}
use Rattle.audit_sightings.specs.Intake.{sighting_at}
use Rattle.audit_server.specs.Placed.{Placed}
use Rattle.audit_server.specs.Whole.{all_tenancies}
use Rattle.audit_server.proofs.Lawful.{lawful}
use Rattle.audit_whole.specs.Glued.{lanes_from}
use Rattle.audit_whole.specs.CaptureRun.{rules_for}
use Rattle.audit_prefix.specs.Turn.{turns_of}
use Rattle.audit_prefix.proofs.Continuing.{wholes}
use Rattle.audit_prefix.proofs.Extending.{new_lanes_are, turns_come, lanes_by}
use Rattle.audit_prefix.proofs.Holders.{each_turn, known_after, of_wholes}
use Rattle.audit_prefix.proofs.laws.holders_stay_known.Goals as goal

pub returns : goal.returns
returns c taken key_for old extension new last horizon noted then_noted extends by_last past by_then on goes none knew notes =
    let w = rules_for taken key_for in
    let same : lanes_from 0 new.lanes ≡ wholes (turns_of old extension) = new_lanes_are old extension new extends in
    known_after w (lawful taken.policy key_for (sighting_at taken)) last horizon on (turns_of old extension) noted then_noted
    (each_turn w last 0 (turns_of old extension) (turns_come old extension new extends w last by_last past goes))
    (of_wholes (λ (e : Placed). e.at.key.moment ≤ horizon) (turns_of old extension)
    (subst (λ (ls : List (List Placed)). AllByRecursion (AllByRecursion (λ (e : Placed). e.at.key.moment ≤ horizon)) ls) same (lanes_by (λ (e : Placed). e.at.key.moment ≤ horizon) new by_then).0))
    (subst (λ (ls : List (List Placed)). (b : Breach) → ¬ ShowsClash (all_tenancies w ls) b) same none) knew notes
