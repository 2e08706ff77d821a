use Rattle.std.proofs.Common.{rules}
use Rattle.std.proofs.lemmas.Fn.{All-from_retain}
use Rattle.audit_model.specs.declared.sighting.Side.TheVariants.{Arrives}
use Rattle.audit_sightings.specs.Intake.{taken, IsThere}
use Rattle.audit_finding.specs.Turn.{IsInside}
use Rattle.audit_finder.proofs.turn.Turn.drops.Goals as goal

pub returns-clause-there : goal.returns-clause-there
returns-clause-there c = All-from_retain _ (λ e. IsThere (taken c.args.intake.now) Arrives e.sight) _ (λ x b g called. search rules) _ _ c.retain.ensures.filtered

pub returns-clause-inside : goal.returns-clause-inside
returns-clause-inside c = All-from_retain _ (λ e. IsInside c.args.self.last c.args.self.horizon e.key.moment) _ (λ x b g called. search rules) _ _ c.retain.ensures.filtered
