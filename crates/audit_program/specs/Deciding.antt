-- What the verdict by one certificate implies for all certificates.
use Rattle.audit_model.specs.declared.certificate.Certificate.{Certificate}
use Rattle.audit_rules.specs.Keys.{KeyFor}
use Rattle.audit_sightings.specs.Intake.{Taken}
use Rattle.audit_whole.specs.CaptureRun.{rules_for}
use Rattle.audit_whole.specs.Conforms.{Conforms}
use Rattle.audit_program.specs.declared.outlook.Outlook.{Outlook}
use Rattle.audit_program.specs.declared.outlook.Outlook.TheVariants.{Decided, DecidedAfter, Open}

-- if any certificate explains the captures, this one does
abbrev pub Decides : Taken → KeyFor → Certificate → Type 0
Decides taken key_for found = (other : Certificate) → Conforms taken (rules_for taken key_for) other → Conforms taken (rules_for taken key_for) found

-- no certificate explains the captures
abbrev pub NoneConforms : Taken → KeyFor → Type 0
NoneConforms taken key_for = (other : Certificate) → Conforms taken (rules_for taken key_for) other → ⊥

abbrev pub IsOutlook : Taken → KeyFor → Certificate → Outlook → Type 0
IsOutlook taken key_for found Decided = Decides taken key_for found
IsOutlook taken key_for found DecidedAfter = NoneConforms taken key_for
IsOutlook taken key_for found Open = Unit {0}
