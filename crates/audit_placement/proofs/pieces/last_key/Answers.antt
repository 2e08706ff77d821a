use Rattle.std.proofs.Common.{◌∙◌, Some, ap}
use Rattle.audit_placement.proofs.PieceSteps.{last_key_of}
use Rattle.audit_placement.proofs.pieces.last_key.Goals as goal

pub returns-in-Some : goal.returns-in-Some
returns-in-Some c = ap Some c.key.ensures ∙ last_key_of c.args.last c.args.events.now c.in-Some.event.now c.in-Some.ensures.value
