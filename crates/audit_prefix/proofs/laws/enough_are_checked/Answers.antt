use Rattle.std.proofs.Common.{◌≡◌, ◌↔◌, List, sym, subst}
use Rattle.audit_model.specs.Clash.{ShowsClash}
use Rattle.audit_sightings.specs.Intake.{sighting_at}
use Rattle.audit_server.specs.Placed.{Placed}
use Rattle.audit_server.specs.Whole.{all_tenancies, ClashNowhere}
use Rattle.audit_server.proofs.Lawful.{lawful}
use Rattle.audit_whole.specs.Glued.{lanes_from}
use Rattle.audit_whole.specs.CaptureRun.{rules_for}
use Rattle.audit_whole.proofs.Conforming.{nowhere_of}
use Rattle.audit_prefix.specs.Turn.{turns_of, fresh, AreEnough}
use Rattle.audit_prefix.proofs.Continuing.{enough, wholes, befores}
use Rattle.audit_prefix.proofs.Extending.{new_lanes_are, turns_come, befores_are}
use Rattle.audit_prefix.proofs.laws.enough_are_checked.Goals as goal

pub returns : goal.returns
returns c taken key_for old extension new last checked extends by past goes none are b =
    let w = rules_for taken key_for in
    let same : lanes_from 0 new.lanes ≡ wholes (turns_of old extension) = new_lanes_are old extension new extends in
    let before : all_tenancies w (befores (turns_of old extension)) ≡ all_tenancies w (lanes_from 0 old.lanes) = befores_are w 0 old.lanes extension.lanes extension.events in
    subst (λ (ls : List (List Placed)). ShowsClash (all_tenancies w ls) b ↔ ShowsClash checked b) (sym same)
    (enough w (lawful taken.policy key_for (sighting_at taken)) last 0 (turns_of old extension) (turns_come old extension new extends w last by past goes)
    (subst ClashNowhere (sym before) (nowhere_of (all_tenancies w (lanes_from 0 old.lanes)) none)) checked
    (subst (λ (ls : List (List Placed)). AreEnough last (all_tenancies w ls) (fresh w (turns_of old extension)) checked) same are) b)
