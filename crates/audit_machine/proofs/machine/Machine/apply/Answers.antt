use Rattle.std.proofs.Common.{Bool, [], ◌∷◌, sym, subst}
use Rattle.std.proofs.lemmas.Result.{on_ok_weaker}
use Rattle.audit_keys.specs.KeyFor.{key_for}
use Rattle.audit_model.specs.declared.sighting.SightId.{SightId}
use Rattle.audit_sightings.specs.Intake.{taken, sighting_at}
use Rattle.audit_segments.specs.Segment.{IsSegment}
use Rattle.audit_machine.specs.declared.moves.Action.{Action}
use Rattle.audit_machine.specs.Machine.{cut_of}
use Rattle.audit_machine.specs.Moves.{step_of, NamesIncluded}
use Rattle.audit_machine.proofs.machine.Machine.apply.Goals as goal

pub returns-in-Arrive-clause-segment : goal.returns-in-Arrive-clause-segment
returns-in-Arrive-clause-segment c = on_ok_weaker c.apply_arrival.result (λ h.
    subst (λ (a : Action). (excluded : SightId → Bool) → NamesIncluded excluded a → IsSegment c.args.self.now.policy (key_for c.args.credentials.now) (sighting_at (taken c.args.intake.now)) (cut_of c.args.self.now excluded) (step_of a ∷ []) (cut_of c.apply_arrival.new.self excluded))
    (sym c.in-Arrive.is) (λ excluded free. h (key_for c.args.credentials.now) excluded free)) c.apply_arrival.ensures.segment

pub returns-in-Act-clause-segment : goal.returns-in-Act-clause-segment
returns-in-Act-clause-segment c = on_ok_weaker c.apply_act.result (λ h.
    subst (λ (a : Action). (excluded : SightId → Bool) → NamesIncluded excluded a → IsSegment c.args.self.now.policy (key_for c.args.credentials.now) (sighting_at (taken c.args.intake.now)) (cut_of c.args.self.now excluded) (step_of a ∷ []) (cut_of c.apply_act.new.self excluded))
    (sym c.in-Act.is) (λ excluded free. h excluded free.0 free.1)) c.apply_act.ensures.segment

pub returns-in-Leave-clause-segment : goal.returns-in-Leave-clause-segment
returns-in-Leave-clause-segment c = on_ok_weaker c.apply_departure.result (λ h.
    subst (λ (a : Action). (excluded : SightId → Bool) → NamesIncluded excluded a → IsSegment c.args.self.now.policy (key_for c.args.credentials.now) (sighting_at (taken c.args.intake.now)) (cut_of c.args.self.now excluded) (step_of a ∷ []) (cut_of c.apply_departure.new.self excluded))
    (sym c.in-Leave.is) (λ excluded free. h (key_for c.args.credentials.now) excluded free)) c.apply_departure.ensures.segment
