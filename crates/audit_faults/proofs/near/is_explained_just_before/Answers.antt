use Rattle.std.proofs.Common.{refl}
use Rattle.audit_model.specs.declared.sighting.Sighting.{Sighting}
use Rattle.audit_keys.specs.KeyFor.{key_for}
use Rattle.audit_sightings.specs.Intake.{taken, interface_at}
use Rattle.audit_faults.specs.Explains.{Explains}
use Rattle.audit_faults.proofs.Captured.{some_of}
use Rattle.audit_faults.proofs.near.is_explained_just_before.Goals as goal

pub returns-then-explained_just_before : goal.returns-then-explained_just_before
returns-then-explained_just_before c _ =
    some_of (taken c.args.intake.now) (λ (s : Sighting). Explains (taken c.args.intake.now) (key_for c.args.credentials.now) c.args.fault s c.args.departure.now) c.interfaces.iface (interface_at (taken c.args.intake.now) c.interfaces.iface) refl
    (c.explained_just_before.ensures c.if-explained_just_before.true)
