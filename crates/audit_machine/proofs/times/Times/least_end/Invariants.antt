use Rattle.std.proofs.Common.{◌≡◌, ◌≤◌, ◌⊎◌, ℕ, Some}
use Rattle.std.specs.List.{AllByRecursion}
use Rattle.audit_model.specs.declared.sighting.SightId.{SightId}
use Rattle.audit_model.specs.Window.{later}
use Rattle.audit_machine.specs.Judged.{EndsAt}
use Rattle.audit_machine.specs.Times.{time_of}
use Rattle.audit_machine.proofs.Judging.{at_sight}
use Rattle.audit_machine.proofs.times.Times.least_end.Given as goal

abbrev pub invariant-loop-came : goal.invariant-loop-came
invariant-loop-came l = record {
  there : AllByRecursion (λ (e : SightId × ℕ). at_sight l.self.moments.entries e.0 ≡ Some e.1) l.came-iterator;
  bound : l.least ≤ l.bound;
  each : (s : SightId) (came : ℕ) → at_sight l.self.moments.entries s ≡ Some came → (at_sight l.came-iterator s ≡ Some came) ⊎ (l.least ≤ later came l.hold);
  least : (l.least ≡ l.bound) ⊎ EndsAt (time_of l.self) l.hold l.least;
}
