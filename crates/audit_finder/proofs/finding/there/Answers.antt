use Rattle.std.proofs.Common.{rules}
use Rattle.std.proofs.lemmas.Fn.{All-from_retain}
use Rattle.audit_sightings.specs.Intake.{taken, IsThere}
use Rattle.audit_model.specs.declared.sighting.Side.TheVariants.{Arrives}
use Rattle.audit_finder.proofs.finding.there.Goals as goal

pub returns : goal.returns
returns c = All-from_retain _ (λ e. IsThere (taken c.args.intake.now) Arrives e.sight) _ (λ x b g called. search rules) _ _ c.retain.ensures.filtered
