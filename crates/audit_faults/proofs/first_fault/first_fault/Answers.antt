use Rattle.std.proofs.Common.{◌≡◌, Bool, true, false, sym, ◌∙◌}
use Rattle.audit_keys.specs.KeyFor.{key_for}
use Rattle.audit_sightings.specs.Intake.{taken}
use Rattle.audit_faults.proofs.Ranking.{fault_at_last, none_before_unfit, none_before_unauthentic}
use Rattle.audit_faults.proofs.first_fault.first_fault.Goals as goal

not_both : (b : Bool) → b ≡ false → b ≡ true → ⊥
not_both b h k = let e : true ≡ false = sym k ∙ h in cc

pub returns-then-not-unauthentic-clause-none : goal.returns-then-not-unauthentic-clause-none
returns-then-not-unauthentic-clause-none c _ fault f =
    not_both c.is_fault-unauthentic.result c.if-not-unauthentic.true (c.is_fault-unauthentic.ensures.1 (fault_at_last (taken c.args.intake.now) (key_for c.args.users.now) c.args.sight fault f))

pub returns-then-not-unfit-clause-first : goal.returns-then-not-unfit-clause-first
returns-then-not-unfit-clause-first c = none_before_unauthentic (taken c.args.intake.now) (key_for c.args.users.now) c.args.sight (λ f. not_both c.is_fault-unfit.result c.if-not-unfit.true (c.is_fault-unfit.ensures.1 f))

pub returns-then-not-unbound-clause-first : goal.returns-then-not-unbound-clause-first
returns-then-not-unbound-clause-first c = none_before_unfit (taken c.args.intake.now) (key_for c.args.users.now) c.args.sight (λ f. not_both c.is_fault-unbound.result c.if-not-unbound.true (c.is_fault-unbound.ensures.1 f))
