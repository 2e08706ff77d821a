use Rattle.std.proofs.Common.{◌≡◌, take}
use Rattle.audit_cuts.specs.Rebasing.{totals, bases_of}
use Rattle.audit_cuts.proofs.rebasing.with_bases.Given as goal

-- the interfaces so far have as many placed sightings as before, and their new bases
abbrev pub invariant-loop-iface : goal.invariant-loop-iface
invariant-loop-iface l = (totals l.moved.items ≡ take l.iface (totals l.interfaces)) × (bases_of l.moved.items ≡ take l.iface l.bases)
