-- If no breach is reported, none is reported as the intake grows.
use Rattle.std.proofs.Common.{List, None, sym, subst}
use Rattle.audit_model.specs.declared.certificate.Certificate.{Certificate}
use Rattle.audit_model.specs.declared.verdict.Tenancy.{Tenancy}
use Rattle.audit_model.specs.Clash.{ShowsClash}
use Rattle.audit_order.specs.Kept.{Stays}
use Rattle.audit_rules.specs.Keys.{KeyFor}
use Rattle.audit_sightings.specs.Intake.{AreNumbered, Taken}
use Rattle.audit_whole.specs.CaptureRun.{rules_for}
use Rattle.audit_whole.specs.Glued.{lanes_from}
use Rattle.audit_prefix.specs.Breaches.{LiveBreach}
use Rattle.audit_prefix.proofs.Growth.{go_on}
use Rattle.audit_prefix.proofs.Later.{goes_later, same_tenancies}
use Rattle.audit_prefix.proofs.Staying.{shows_none_later}
use Rattle.audit_prefix.proofs.Passing.{passes_of_none, none_of_passes}

pub none_later : (before now : Taken) (key_for : KeyFor) (certificate : Certificate) → AreNumbered before → AreNumbered now → Stays before now → LiveBreach before key_for certificate None → LiveBreach now key_for certificate None
none_later before now key_for certificate numbered later stays none =
    let p = passes_of_none before numbered key_for certificate none in
    let w = rules_for before key_for in
    let v = rules_for now key_for in
    let g = go_on before now stays key_for in
    none_of_passes now later key_for certificate (record {
      placement = shows_none_later before now numbered stays certificate p.placement;
      lanes = goes_later w v g (lanes_from 0 certificate.lanes) p.lanes;
      tenancies = λ b. subst (λ (ts : List Tenancy). ¬ ShowsClash ts b) (sym (same_tenancies w v g 0 certificate.lanes p.lanes)) (p.tenancies b);
    })
