use Rattle.std.proofs.Common.{[], sym, ap, append-nil, ◌∙◌, subst}
use Rattle.audit_keys.specs.KeyFor.{key_for}
use Rattle.audit_sightings.specs.Intake.{AreNumbered, Taken, taken}
use Rattle.audit_live.proofs.Known.{known_on}
use Rattle.audit_sightings.specs.ByInterface.{of_interface}
use Rattle.audit_live.proofs.live.Live.add_file.Goals as goal
use Rattle.audit_live.proofs.live.Live.add_file.Goals.{in-Ok, in-Err}

pub invariant_of-self : goal.invariant_of-self
invariant_of-self c = λ going. elim c.match-add_file.branch [
  | in-Ok w ↦
      known_on (taken c.self.inside.intake) (taken c.add_file.new.self) (key_for c.self.inside.credentials) c.self.inside.last c.self.inside.front
      (subst AreNumbered (sym w.in-Ok.ensures.ok) (c.self.invariant going).numbered)
      (record {
        policy = ap (λ (t : Taken). t.policy) w.in-Ok.ensures.ok;
        rows = λ iface. ([], ap (λ (t : Taken). of_interface t.interfaces iface) w.in-Ok.ensures.ok ∙ sym (append-nil _));
      })
      (c.self.invariant going)
  | in-Err w ↦
      known_on (taken c.self.inside.intake) (taken c.add_file.new.self) (key_for c.self.inside.credentials) c.self.inside.last c.self.inside.front
      (subst AreNumbered (sym w.in-Err.ensures.err) (c.self.invariant going).numbered)
      (record {
        policy = ap (λ (t : Taken). t.policy) w.in-Err.ensures.err;
        rows = λ iface. ([], ap (λ (t : Taken). of_interface t.interfaces iface) w.in-Err.ensures.err ∙ sym (append-nil _));
      })
      (c.self.invariant going)
]
