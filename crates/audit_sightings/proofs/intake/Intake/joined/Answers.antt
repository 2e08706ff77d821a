use Rattle.std.proofs.Common.{ℕ, ◌*◌, refl, rules, subst}
use Rattle.audit_sightings.specs.Joins.{Joins}
use Rattle.audit_sightings.proofs.JoinFiles.{stands_joined}
use Rattle.audit_sightings.proofs.intake.Intake.joined.Goals as goal

pub returns-in-Ok-joined-clause-ok : goal.returns-in-Ok-joined-clause-ok
returns-in-Ok-joined-clause-ok c = λ files others here there.
    stands_joined c.args.self c.args.other _ files others here there refl refl c.requires
    (subst (λ (n : ℕ). Joins (64 * n) c.args.self.interfaces c.args.other.interfaces c.in-Ok-joined.interfaces) c.len-file.ensures c.in-Ok-joined.ensures.ok)
    (search rules) c.in-Ok.ensures.items c.in-Ok.ensures.len
