use Rattle.std.proofs.Common.{rules}
use Rattle.std.proofs.lemmas.Fn.{All-from_retain}
use Rattle.audit_sightings.specs.Intake.{taken, NamesWhatIsThere}
use Rattle.audit_finder.proofs.filling.named.Goals as goal

pub returns : goal.returns
returns c = All-from_retain _ (λ e. NamesWhatIsThere (taken c.args.intake.now) e.1) _ (λ x b g called. search rules) _ _ c.retain.ensures.filtered
