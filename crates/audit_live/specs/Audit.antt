-- A live audit as contracts see it.
use Rattle.std.specs.Prelude.{ℕ, Option}
use Rattle.audit_keys.specs.declared.keyring.Credentials.{Credentials}
use Rattle.audit_sightings.specs.declared.intake.Intake.{Intake}
use Rattle.audit_live.specs.declared.cause.Cause.{Cause}
use Rattle.audit_live.specs.declared.front.Front.{Front}

-- The intake, the users, the certificate of all extensions so far with the state of its lanes, the
-- last horizon, and the first cause by which it ended, if it did.
pub record Audit : Type 0 where
  pub intake : Intake
  pub credentials : Credentials
  pub front : Front
  pub last : Option ℕ
  pub ended : Option Cause
