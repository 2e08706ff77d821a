use Rattle.audit_sightings.proofs.intake.Intake.feed_parallel.Goals as goal

pub returns-in-Err-clause-grows : goal.returns-in-Err-clause-grows
returns-in-Err-clause-grows g c = rw c.fail.ensures.failed c.take_large_piece.ensures.grows
