use Rattle.std.proofs.Common.{◌≡◌, ℕ, map, take}
use Rattle.audit_model.specs.declared.event.Event.{Event}
use Rattle.audit_live.proofs.lanes.lanes_of.Given as goal

-- the numbers so far
abbrev pub invariant-events : goal.invariant-events
invariant-events l = l.numbers.items ≡ map (λ (e : ℕ × Event). e.0) (take l.number-index l.events)
