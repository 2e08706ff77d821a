use Rattle.audit_sightings.proofs.intake.Intake.feed.Goals as goal

pub returns-in-Err-clause-grows : goal.returns-in-Err-clause-grows
returns-in-Err-clause-grows c = rw c.fail.ensures.failed c.take_piece.ensures.grows
