use Rattle.std.proofs.Common.{take, None, Some}
use Rattle.audit_model.specs.Least.{IsLeast}
use Rattle.audit_sightings.specs.Intake.{taken}
use Rattle.audit_placement.specs.Cuts.{ShowsCutIn}
use Rattle.audit_placement.specs.Entries.{entries_from}
use Rattle.audit_placement.proofs.cuts.lane_cut.Given as goal

-- what the events so far show
abbrev pub invariant-events : goal.invariant-events
invariant-events l =
    IsLeast (ShowsCutIn (taken l.intake) l.certificate.skews (entries_from (Some (record { client = l.lane.client; listen = l.lane.listen })) l.number 0 None (take l.place l.event-items))) l.least
