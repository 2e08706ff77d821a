use Rattle.std.proofs.Common.{All, [], take}
use Rattle.std.specs.Prelude.{IfNone}
use Rattle.audit_model.specs.Least.{IsLeast}
use Rattle.audit_sightings.specs.Intake.{NamesWhatIsThere, taken}
use Rattle.audit_placement.specs.Entries.{lanes_entries}
use Rattle.audit_placement.specs.FirstPlace.{Notes}
use Rattle.audit_placement.specs.Shows.{ShowsFrom}
use Rattle.audit_placement.proofs.whole.lanes_breach.Given as goal

-- what the lanes so far show; with no breach their events name what is there
abbrev pub invariant-lanes : goal.invariant-lanes
invariant-lanes l = record {
  shown : Notes l.certificate l.fn.first [] → IsLeast (ShowsFrom (taken l.intake) [] (lanes_entries 0 (take l.number l.lane-items))) l.least;
  notes : Notes l.certificate l.fn.first [] → Notes l.certificate l.first (lanes_entries 0 (take l.number l.lane-items));
  named : IfNone l.least (All (λ lane. All (NamesWhatIsThere (taken l.intake)) lane.events) (take l.number l.lane-items));
}
