use Rattle.audit_sightings.specs.Intake.{taken}
use Rattle.audit_placement.proofs.LeastOfWhole.{least_cut_too, none_of_first}
use Rattle.audit_placement.proofs.whole.least_with_cuts.Goals as goal

pub returns-clause-shown : goal.returns-clause-shown
returns-clause-shown c = least_cut_too (taken c.args.intake.now) c.args.certificate.now _ _ _ c.in_ok-by_stamps.ensures.shown c.least_cut-of_cuts.ensures c.least.ensures

pub returns-clause-named : goal.returns-clause-named
returns-clause-named c = none_of_first _ _ _ _ c.least.ensures c.in_ok-by_stamps.ensures.named
