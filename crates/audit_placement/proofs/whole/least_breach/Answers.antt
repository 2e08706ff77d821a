use Rattle.std.proofs.Common.{ap, subst}
use Rattle.std.specs.Prelude.{IfSome, is_some}
use Rattle.audit_sightings.specs.Intake.{taken}
use Rattle.audit_placement.specs.Entries.{entries}
use Rattle.audit_placement.specs.Clean.{IsClean}
use Rattle.audit_placement.specs.Keys.{key_at}
use Rattle.audit_placement.proofs.CleanSteps.{clean_tells}
use Rattle.audit_placement.proofs.CleanTurns.{clean_whole, clean_names}
use Rattle.audit_placement.proofs.LeastOfWhole.{least_whole, none_of_first}
use Rattle.audit_placement.proofs.whole.least_breach.Goals as goal

pub returns-clause-shown : goal.returns-clause-shown
returns-clause-shown c =
    let certificate = c.args.certificate.now in
    least_whole (taken c.args.intake.now) certificate _ _ _ c.in_ok-of_placed.ensures.shown
    (c.unplaced_breach-of_unplaced.ensures (entries certificate) (λ sight. ap is_some (c.in_ok-of_placed.ensures.notes sight)))
    c.least.ensures

pub returns-clause-named : goal.returns-clause-named
returns-clause-named c = none_of_first _ _ _ _ c.least.ensures c.in_ok-of_placed.ensures.named

pub returns-in-Some-clause-shown : goal.returns-in-Some-clause-shown
returns-in-Some-clause-shown c =
    let certificate = c.args.certificate.now in
    let clean = subst (λ o. IfSome o (λ keys. IsClean (taken c.args.intake.now) (key_at keys) (entries certificate))) c.in-Some.is c.requires in
    clean_whole (taken c.args.intake.now) (key_at c.in-Some.keys) certificate _ clean
    (c.unplaced_breach.ensures (entries certificate) (clean_tells (taken c.args.intake.now) (key_at c.in-Some.keys) (entries certificate) clean))

pub returns-in-Some-clause-named : goal.returns-in-Some-clause-named
returns-in-Some-clause-named c =
    let certificate = c.args.certificate.now in
    let clean = subst (λ o. IfSome o (λ keys. IsClean (taken c.args.intake.now) (key_at keys) (entries certificate))) c.in-Some.is c.requires in
    clean_names (taken c.args.intake.now) (key_at c.in-Some.keys) certificate c.unplaced_breach.result clean
