use Rattle.std.proofs.Common.{[]}
use Rattle.audit_sightings.specs.Intake.{sighting_at}
use Rattle.audit_segments.specs.Cut.{empty_cut}
use Rattle.audit_segments.specs.Segment.{all_steps}
use Rattle.audit_segments.proofs.Claiming.{whole_of, no_steps, headline_of, headline_except}
use Rattle.audit_segments.proofs.laws.conforms_at_the_end.Goals as goal

pub returns-clause-all : goal.returns-clause-all
returns-clause-all c taken key_for segments last k complete none =
    headline_of taken key_for (all_steps segments) last (whole_of taken.policy key_for (sighting_at taken) segments empty_cut empty_cut last [] (no_steps taken.policy key_for (sighting_at taken) empty_cut) k) complete none

pub returns-clause-others : goal.returns-clause-others
returns-clause-others c taken key_for segments last k complete =
    headline_except taken key_for (all_steps segments) last (whole_of taken.policy key_for (sighting_at taken) segments empty_cut empty_cut last [] (no_steps taken.policy key_for (sighting_at taken) empty_cut) k) complete
