use Rattle.std.proofs.Common.{◌≡◌, Bool, true, false, sym, ◌∙◌}
use Rattle.audit_keys.specs.KeyFor.{key_for}
use Rattle.audit_sightings.specs.Intake.{taken}
use Rattle.audit_faults.proofs.Ranking.{none_before_unpermitted, none_before_unbound}
use Rattle.audit_faults.proofs.first_fault.lease_fault.Goals as goal

not_both : (b : Bool) → b ≡ false → b ≡ true → ⊥
not_both b h k = let e : true ≡ false = sym k ∙ h in cc

pub returns-then-not-unpermitted-clause-first : goal.returns-then-not-unpermitted-clause-first
returns-then-not-unpermitted-clause-first c = none_before_unbound (taken c.args.intake.now) (key_for c.args.users.now) c.args.sight (λ f. not_both c.is_fault-unpermitted.result c.if-not-unpermitted.true (c.is_fault-unpermitted.ensures.1 f))

pub returns-then-not-unallocated-clause-first : goal.returns-then-not-unallocated-clause-first
returns-then-not-unallocated-clause-first c = none_before_unpermitted (taken c.args.intake.now) (key_for c.args.users.now) c.args.sight (λ f. not_both c.is_fault-unallocated.result c.if-not-unallocated.true (c.is_fault-unallocated.ensures.1 f))
