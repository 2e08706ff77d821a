use Rattle.audit_placement.proofs.AmongSteps.{first_by_place, shown_by_place}
use Rattle.audit_placement.proofs.laws.by_lane_and_place.Goals as goal

pub returns : goal.returns
returns c = record { first = first_by_place; shown = shown_by_place }
