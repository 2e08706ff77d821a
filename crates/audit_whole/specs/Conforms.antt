-- When a certificate conforms.
use Rattle.audit_model.specs.declared.certificate.Certificate.{Certificate}
use Rattle.audit_sightings.specs.Intake.{Taken}
use Rattle.audit_server.specs.Rules.{Rules}
use Rattle.audit_whole.specs.CaptureRun.{IsCaptureRun}
use Rattle.audit_whole.specs.Glued.{glued_steps}
use Rattle.audit_whole.specs.LaneConditions.{LaneConditions}

-- it explains the captures by one run
pub record Conforms (taken : Taken) (w : Rules) (certificate : Certificate) : Type 0 where
  pub conditions : LaneConditions taken certificate
  pub run : IsCaptureRun taken w (glued_steps certificate)
