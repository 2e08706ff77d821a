-- The content of the lines of a certificate so far.
use Rattle.std.specs.Prelude.{List, []}
use Rattle.audit_model.specs.declared.certificate.CertLane.{CertLane}
use Rattle.audit_model.specs.declared.certificate.CertDrop.{CertDrop}
use Rattle.audit_model.specs.declared.certificate.CertSkew.{CertSkew}
use Rattle.audit_cert.specs.declared.lines.Stage.{Stage}

pub record Drafted : Type 0 where
  pub lanes : List CertLane
  pub drops : List CertDrop
  pub skews : List CertSkew

abbrev pub nothing_said : Drafted
nothing_said = record { lanes = []; drops = []; skews = [] }

-- how far a text has been read, and the content of its lines
pub record Progress : Type 0 where
  pub stage : Stage
  pub said : Drafted
