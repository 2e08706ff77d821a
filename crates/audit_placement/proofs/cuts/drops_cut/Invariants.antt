use Rattle.std.proofs.Common.{take, map, None}
use Rattle.audit_model.specs.Least.{IsLeast}
use Rattle.audit_sightings.specs.Intake.{taken}
use Rattle.audit_placement.specs.Cuts.{ShowsCutIn}
use Rattle.audit_placement.specs.Entries.{arrival_of, entries_from}
use Rattle.audit_placement.proofs.cuts.drops_cut.Given as goal

-- what the drops so far show
abbrev pub invariant-drops : goal.invariant-drops
invariant-drops l = IsLeast (ShowsCutIn (taken l.intake) l.certificate.skews (entries_from None l.lane 0 None (map arrival_of (take l.place l.drops)))) l.least
