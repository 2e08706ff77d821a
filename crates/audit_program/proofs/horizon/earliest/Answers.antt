use Rattle.std.proofs.Common.{◌≡◌, ◌+◌, ℕ, Option, subst}
use Rattle.audit_sightings.specs.Intake.{taken}
use Rattle.audit_sightings.specs.Newest.{IsNewest}
use Rattle.audit_program.proofs.Earliest.{of_more, some_now}
use Rattle.audit_program.proofs.horizon.earliest.Goals as goal

pub files-preserved : goal.files-preserved
files-preserved c =
    let newest = subst (λ (o : Option ℕ). IsNewest (taken c.args.intake.now).interfaces c.files.file o) c.in_ok-newest.was c.newest.ensures in
    rw c.sooner-earliest.ensures (record {
      so_far = of_more (taken c.args.intake.now) c.files.file c.files.earliest c.in_ok-newest.newest c.files.invariant.none c.files.invariant.so_far newest;
      none = some_now c.files.earliest c.in_ok-newest.newest (c.files.file + 1 ≡ 0);
    })
