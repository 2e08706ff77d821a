-- The checks of a certificate, part by part.
use Rattle.audit_model.specs.declared.certificate.Certificate.{Certificate}
use Rattle.audit_model.specs.declared.verdict.Breach.{Breach}
use Rattle.audit_model.specs.Clash.{ShowsClash}
use Rattle.audit_sightings.specs.Intake.{Taken}
use Rattle.audit_placement.specs.Shows.{Shows}
use Rattle.audit_server.specs.Rules.{Rules}
use Rattle.audit_server.specs.Whole.{EachRuns, all_tenancies}
use Rattle.audit_whole.specs.Glued.{lanes_from}

-- No rule of placement is broken, each lane is a run of a server with its client alone, and no two
-- tenancies clash.
pub record Passes (taken : Taken) (w : Rules) (certificate : Certificate) : Type 0 where
  pub placement : (breach : Breach) → Shows taken certificate breach → ⊥
  pub lanes : EachRuns w (lanes_from 0 certificate.lanes)
  pub tenancies : (breach : Breach) → ShowsClash (all_tenancies w (lanes_from 0 certificate.lanes)) breach → ⊥
