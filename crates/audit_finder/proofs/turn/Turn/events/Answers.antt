use Rattle.std.proofs.Common.{rules}
use Rattle.std.proofs.lemmas.Fn.{All-from_retain}
use Rattle.audit_model.specs.Event.{key_of}
use Rattle.audit_sightings.specs.Intake.{taken, NamesWhatIsThere}
use Rattle.audit_finding.specs.Turn.{IsInside}
use Rattle.audit_finder.proofs.turn.Turn.events.Goals as goal

pub returns-clause-named : goal.returns-clause-named
returns-clause-named c = All-from_retain _ (λ e. NamesWhatIsThere (taken c.args.intake.now) e.1) _ (λ x b g called. search rules) _ _ c.retain.ensures.filtered

pub returns-clause-inside : goal.returns-clause-inside
returns-clause-inside c = All-from_retain _ (λ e. IsInside c.args.self.last c.args.self.horizon (key_of e.1).moment) _ (λ x b g called. search rules) _ _ c.retain.ensures.filtered
