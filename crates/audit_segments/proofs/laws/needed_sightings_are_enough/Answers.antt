use Rattle.audit_segments.proofs.Viewing.{by_all}
use Rattle.audit_segments.proofs.laws.needed_sightings_are_enough.Goals as goal

pub returns : goal.returns
returns c policy key_for all view old new steps v k = by_all policy key_for all view old new steps v k
