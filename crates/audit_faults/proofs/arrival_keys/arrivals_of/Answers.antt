use Rattle.audit_sightings.specs.Intake.{taken}
use Rattle.audit_faults.specs.ArrivalKeys.{IsArrivalBy}
use Rattle.audit_faults.proofs.Keying.{all_keyed}
use Rattle.audit_faults.proofs.arrival_keys.arrivals_of.Goals as goal

pub returns : goal.returns
returns c = all_keyed (taken c.args.intake.now) (IsArrivalBy (taken c.args.intake.now).policy) c.add_rows.new.keyed.items _ c.in_ok-width.width c.in_ok-width.ensures c.in_ok-sort_keyed.ensures.permuted c.in_ok-sort_keyed.ensures.sorted
