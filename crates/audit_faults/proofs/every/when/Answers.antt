use Rattle.std.proofs.Common.{◌≡◌, ℕ, true, false, sym, ◌∙◌, subst}
use Rattle.audit_sightings.specs.Intake.{taken}
use Rattle.audit_faults.specs.Beginning.{WasBegun}
use Rattle.audit_faults.proofs.every.when.Goals as goal

pub returns-then-was_begun-2 : goal.returns-then-was_begun-2
returns-then-was_begun-2 c = (
  subst (λ (n : ℕ). WasBegun (taken c.args.intake.now) c.args.fault n c.args.departure.now) c.requires.last (c.was_begun-2.ensures.0 c.if-was_begun-2.true),
  λ before. let k : true ≡ false = sym (c.was_begun.ensures.1 before) ∙ c.if-was_begun.false in cc,
)

pub returns : goal.returns
returns c = λ ever. let k : true ≡ false =
    sym (c.was_begun-2.ensures.1 (subst (λ (n : ℕ). WasBegun (taken c.args.intake.now) c.args.fault n c.args.departure.now) (sym c.requires.last) ever)) ∙ c.if-was_begun-2.false in cc
