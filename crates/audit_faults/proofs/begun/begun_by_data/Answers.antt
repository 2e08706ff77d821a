use Rattle.std.proofs.Common.{◌≡◌, ℕ, Option, rules, subst}
use Rattle.audit_sightings.specs.Intake.{taken}
use Rattle.audit_faults.specs.declared.fault.Fault.TheVariants.{Unasked}
use Rattle.audit_faults.specs.ArrivalKeys.{HasOwnedKey}
use Rattle.audit_faults.proofs.begun.begun_by_data.Goals as goal

pub returns-then-eq-clause-all : goal.returns-then-eq-clause-all
returns-then-eq-clause-all c partner arrival paired captured has p =
    c.begun_by.ensures.all arrival captured (subst (λ (key : Option ℕ). HasOwnedKey (taken c.args.intake.now).policy key partner arrival) c.in-Some.is has).0 p

pub returns-clause-all : goal.returns-clause-all
returns-clause-all c partner arrival paired captured has p =
    let unless : c.args.fault ≡ Unasked → ⊥ = search rules in
    c.begun_by_partners.ensures.all partner arrival (paired unless) captured (subst (λ (key : Option ℕ). HasOwnedKey (taken c.args.intake.now).policy key partner arrival) c.in-Some.is has) p
