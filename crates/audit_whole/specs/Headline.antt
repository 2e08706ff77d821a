-- What it means that a certificate conforms.
use Rattle.audit_model.specs.declared.certificate.Certificate.{Certificate}
use Rattle.audit_model.specs.Policy.{AreApart}
use Rattle.audit_sightings.specs.Intake.{Taken}
use Rattle.audit_rules.specs.Keys.{KeyFor}
use Rattle.audit_whole.specs.CaptureRun.{rules_for, IsCaptureRun}
use Rattle.audit_whole.specs.Departures.{AreRelayed}
use Rattle.audit_whole.specs.Glued.{glued_steps}
use Rattle.audit_whole.specs.Grounded.{IsGrounded}

-- One order of all captured datagrams of the service and of the server's acts, with each datagram
-- at a moment in its stamp's window, keeps every interface's own order and is a run of the RFC 8656
-- server from an empty table that owes nothing at its end. In it, every datagram that is relayed
-- had an allocation that lasted, and a permission or a channel that lasted, requested by one user
-- who has a key; it was relayed with its payload unchanged; and every other departure is a response
-- that an act sent. If no listen address is in a relay range, every departure from a relayed
-- address, and all data that left from a listen address, was relayed so.
pub record Headline (taken : Taken) (key_for : KeyFor) (certificate : Certificate) : Type 0 where
  pub run : IsCaptureRun taken (rules_for taken key_for) (glued_steps certificate)
  pub grounded : IsGrounded taken key_for (glued_steps certificate)
  pub relayed : AreApart taken.policy → AreRelayed taken key_for (glued_steps certificate)
