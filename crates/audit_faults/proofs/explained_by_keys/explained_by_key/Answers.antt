use Rattle.std.proofs.Common.{ℕ, Option, subst}
use Rattle.audit_sightings.specs.Intake.{taken}
use Rattle.audit_faults.specs.ArrivalKeys.{HasKey}
use Rattle.audit_faults.proofs.explained_by_keys.explained_by_key.Goals as goal

pub returns-in-Some-clause-all : goal.returns-in-Some-clause-all
returns-in-Some-clause-all c arrival captured has e =
    c.explained_by.ensures.all arrival captured (subst (λ (key : Option ℕ). HasKey (taken c.args.intake.now).policy key arrival) c.in-Some.is has) e
