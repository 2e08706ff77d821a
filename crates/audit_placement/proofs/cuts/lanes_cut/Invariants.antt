use Rattle.std.proofs.Common.{take}
use Rattle.audit_model.specs.Least.{IsLeast}
use Rattle.audit_sightings.specs.Intake.{taken}
use Rattle.audit_placement.specs.Cuts.{ShowsCutIn}
use Rattle.audit_placement.specs.Entries.{lanes_entries}
use Rattle.audit_placement.proofs.cuts.lanes_cut.Given as goal

-- what the lanes so far show
abbrev pub invariant-lanes : goal.invariant-lanes
invariant-lanes l = IsLeast (ShowsCutIn (taken l.intake) l.certificate.skews (lanes_entries 0 (take l.number l.lane-items))) l.least
