use Rattle.audit_sightings.proofs.AddPacketsSteps.{Grows-then}
use Rattle.audit_sightings.proofs.intake.Intake.take_large_piece.Goals as goal

pub returns-in-Ok-clause-grows : goal.returns-in-Ok-clause-grows
returns-in-Ok-clause-grows g c = Grows-then c.args.self.now.interfaces c.start_piece.new.self.interfaces c.take_large_rest.new.self.interfaces c.start_piece.ensures.grows c.take_large_rest.ensures.grows
