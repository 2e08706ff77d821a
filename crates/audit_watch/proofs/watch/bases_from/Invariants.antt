use Rattle.std.proofs.Common.{◌≡◌, take}
use Rattle.audit_cuts.specs.Rebasing.{bases_of}
use Rattle.audit_watch.proofs.watch.bases_from.Given as goal

-- the bases of the interfaces so far
abbrev pub invariant-interfaces : goal.invariant-interfaces
invariant-interfaces l = l.bases.items ≡ take l.interface-index (bases_of l.interfaces)
