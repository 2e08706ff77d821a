use Rattle.std.proofs.Common.{sym, ◌∙◌, ap, subst}
use Rattle.std.specs.Prelude.{option_copied}
use Rattle.std.proofs.lemmas.Result.{on_ok_weaker}
use Rattle.audit_model.specs.declared.sighting.SightId.{SightId}
use Rattle.audit_server.specs.Step.{In}
use Rattle.audit_sightings.specs.Intake.{taken, sighting_at}
use Rattle.audit_segments.specs.Segment.{IsSegment}
use Rattle.audit_machine.specs.Machine.{cut_of, one_step}
use Rattle.audit_machine.proofs.Naming.{name_is, there_by_id}
use Rattle.audit_machine.proofs.machine.Machine.apply_arrival.Goals as goal

pub returns-clause-segment : goal.returns-clause-segment
returns-clause-segment c =
    let view = sighting_at (taken c.args.intake.now) in
    let x = c.in-Some.sighting.now in
    let there = sym c.sighting.ensures ∙ ap option_copied c.in-Some.is in
    let id = name_is (taken c.args.intake.now) c.sightings_are_numbered.ensures c.args.sight x there in
    on_ok_weaker c.arrive.result (λ h key_for excluded free.
    subst (λ (n : SightId). IsSegment c.args.self.now.policy key_for view (cut_of c.args.self.now excluded) (one_step c.args.moment (In n)) (cut_of c.arrive.new.self excluded)) id
    (h key_for view excluded (there_by_id view c.args.sight x id there) (ap excluded id ∙ free))) c.arrive.ensures.segment
