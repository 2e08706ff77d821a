use Rattle.audit_placement.proofs.LeastOfChecks.{first_least, ascending}
use Rattle.audit_placement.specs.Checks.{checks}
use Rattle.audit_placement.specs.FirstPlace.{is_placed}
use Rattle.audit_sightings.specs.Intake.{taken}
use Rattle.audit_placement.proofs.events.entry_breach.Goals as goal

pub returns-clause-shown : goal.returns-clause-shown
returns-clause-shown c = λ earlier notes.
    let entry = c.args.entry.now in
    rw (c.breach_of.ensures.exact, c.in_ok-placed.ensures.found earlier notes)
    (first_least (checks (taken c.args.intake.now) earlier entry) entry.at
    (ascending (taken c.args.intake.now) (is_placed earlier entry.event) entry.pair entry.last entry.event))
