use Rattle.std.proofs.Common.{◌≡◌, Bool, []}
use Rattle.audit_model.specs.declared.sighting.SightId.{SightId}
use Rattle.audit_rules.specs.Keys.{KeyFor}
use Rattle.audit_segments.specs.Segment.{View, IsSegment}
use Rattle.audit_machine.specs.Machine.{cut_of, IsConsistent}
use Rattle.audit_machine.proofs.machine.Machine.forget_clients.Given as goal

-- what is forgotten so far is a segment without a step
abbrev pub invariant-clients : goal.invariant-clients
invariant-clients l = record {
  segment : (key_for : KeyFor) (view : View) (excluded : SightId → Bool) → IsSegment l.fn.self.policy key_for view (cut_of l.fn.self excluded) [] (cut_of l.self excluded);
  consistent : IsConsistent l.self;
  policy : l.self.policy ≡ l.fn.self.policy;
}
