use Rattle.std.proofs.Common.{[]}
use Rattle.audit_sightings.specs.Intake.{sighting_at}
use Rattle.audit_segments.specs.Cut.{empty_cut}
use Rattle.audit_segments.specs.Segment.{all_steps}
use Rattle.audit_segments.proofs.Claiming.{whole_of, no_steps, up_to}
use Rattle.audit_segments.proofs.laws.conforms_up_to.Goals as goal

pub returns : goal.returns
returns c taken key_for segments last moment k come =
    up_to taken key_for (all_steps segments) last (whole_of taken.policy key_for (sighting_at taken) segments empty_cut empty_cut last [] (no_steps taken.policy key_for (sighting_at taken) empty_cut) k) moment come
