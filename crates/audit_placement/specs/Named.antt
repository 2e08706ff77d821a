-- The sightings that a certificate names exist.
use Rattle.std.specs.Prelude.{All}
use Rattle.audit_model.specs.declared.certificate.Certificate.{Certificate}
use Rattle.audit_sightings.specs.Intake.{Taken, NamesWhatIsThere}

-- each event of each lane names sightings of the intake
abbrev pub AllNamed : Taken → Certificate → Type 0
AllNamed taken certificate = All (λ lane. All (NamesWhatIsThere taken) lane.events) certificate.lanes
