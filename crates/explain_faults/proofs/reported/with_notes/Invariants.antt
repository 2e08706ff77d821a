use Rattle.std.proofs.Common.{◌≡◌, ◌++◌, drop, map}
use Rattle.explain_faults.specs.declared.reported.Reported.{Reported}
use Rattle.explain_faults.proofs.reported.with_notes.Given as goal

-- the faults so far and what is left are all of them
abbrev pub invariant-faults : goal.invariant-faults
invariant-faults l = map (λ (one : Reported). one.shown) l.all.items ++ drop l.shown-index l.faults ≡ l.faults
