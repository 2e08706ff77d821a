use Rattle.std.proofs.Common.{◌≡◌, take}
use Rattle.audit_keys.specs.KeyFor.{key_for}
use Rattle.audit_sightings.specs.Intake.{taken, sighting_at}
use Rattle.audit_machine.specs.Machine.{cut_of, IsConsistent}
use Rattle.audit_machine.specs.Moves.{LeadsTo}
use Rattle.audit_machine.proofs.machine.Machine.apply_all.Given as goal

-- the moves so far are a segment to the machine's cut
abbrev pub invariant-actions : goal.invariant-actions
invariant-actions l = record {
  leads : LeadsTo l.fn.self.policy (key_for l.credentials) (sighting_at (taken l.intake)) (cut_of l.fn.self) (cut_of l.self) (take l.place l.actions);
  consistent : IsConsistent l.self;
  policy : l.self.policy ≡ l.fn.self.policy;
}
