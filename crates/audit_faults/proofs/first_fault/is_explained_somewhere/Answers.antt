use Rattle.std.proofs.Common.{◌≡◌, true, false, refl, sym, ◌∙◌, arith}
use Rattle.audit_model.specs.declared.sighting.Sighting.{Sighting}
use Rattle.audit_keys.specs.KeyFor.{key_for}
use Rattle.audit_sightings.specs.Intake.{taken, interface_at}
use Rattle.audit_faults.specs.Explains.{Explains}
use Rattle.audit_faults.proofs.Captured.{some_of, none_more, none_of}
use Rattle.audit_faults.proofs.first_fault.is_explained_somewhere.Goals as goal

pub returns-then-explained_among : goal.returns-then-explained_among
returns-then-explained_among c =
    (λ _. some_of (taken c.args.intake.now) (λ (s : Sighting). Explains (taken c.args.intake.now) (key_for c.args.credentials.now) c.args.fault s c.args.departure.now) c.interfaces.iface (interface_at (taken c.args.intake.now) c.interfaces.iface) refl (c.explained_among.ensures.0 c.if-explained_among.true), λ _. refl)

pub interfaces-preserved : goal.interfaces-preserved
interfaces-preserved c =
    none_more (taken c.args.intake.now) (λ (s : Sighting). Explains (taken c.args.intake.now) (key_for c.args.credentials.now) c.args.fault s c.args.departure.now) c.interfaces.iface (interface_at (taken c.args.intake.now) c.interfaces.iface) refl c.interfaces.invariant
    (λ h. let k : true ≡ false = sym (c.explained_among.ensures.1 h) ∙ c.if-explained_among.false in cc)

pub returns : goal.returns
returns c = (
  λ h. absurd (let k : false ≡ true = h in cc),
  λ h. absurd (none_of (taken c.args.intake.now) (λ (s : Sighting). Explains (taken c.args.intake.now) (key_for c.args.credentials.now) c.args.fault s c.args.departure.now) c.interfaces.iface (omega arith) c.interfaces.invariant h.0 h.1 h.2),
)
