use Rattle.std.proofs.Common.{take}
use Rattle.audit_model.specs.Clash.{ShowsClash}
use Rattle.audit_model.specs.Least.{IsLeast}
use Rattle.audit_tenancy.specs.Kept.{Keeps}
use Rattle.audit_tenancy.proofs.first.first_clash.Given as goal

abbrev pub invariant-loop-tenancy : goal.invariant-loop-tenancy
invariant-loop-tenancy l =
    Keeps (take l.tenancy-index l.sorted) l.kept.longest l.kept.other × IsLeast (ShowsClash (take l.tenancy-index l.sorted)) l.least
