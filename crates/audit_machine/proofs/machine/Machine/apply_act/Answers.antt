use Rattle.std.proofs.Common.{ℕ, List, [], ◌∷◌, sym, ◌∙◌, ap, subst}
use Rattle.std.specs.Prelude.{option_copied}
use Rattle.std.proofs.lemmas.Result.{on_ok_weaker}
use Rattle.audit_keys.specs.KeyFor.{key_for}
use Rattle.audit_rules.specs.Seen.{key_in}
use Rattle.audit_sightings.specs.Intake.{taken, sighting_at}
use Rattle.audit_machine.specs.Keys.{AgreeInRequest}
use Rattle.audit_machine.specs.Machine.{cut_of}
use Rattle.audit_machine.proofs.Naming.{name_is, act_named, one_agrees, nobody_agrees}
use Rattle.audit_machine.proofs.machine.Machine.apply_act.Goals as goal

pub returns-in-Some-of_request-clause-segment : goal.returns-in-Some-of_request-clause-segment
returns-in-Some-of_request-clause-segment c =
    let view = sighting_at (taken c.args.intake.now) in
    let keys = key_for c.args.credentials.now in
    let x = c.in-Some.arrives.now in
    let y = c.in-Some-sighting.leaves.now in
    let there = sym c.sighting.ensures ∙ ap option_copied c.in-Some.is in
    let there_y = sym c.sighting-2.ensures ∙ ap option_copied c.in-Some-sighting.is in
    let id = name_is (taken c.args.intake.now) c.sightings_are_numbered.ensures c.args.arrival x there in
    let id_y = name_is (taken c.args.intake.now) c.sightings_are_numbered.ensures c.args.departure y there_y in
    on_ok_weaker c.act.result (act_named c.args.self.now.policy keys view (c.in-Some-of_request.row ∷ []) c.args.pair c.args.arrival c.args.departure x y c.args.moment (cut_of c.args.self.now) (cut_of c.act.new.self) id id_y there there_y
    (subst (λ (p : List ℕ). AgreeInRequest (key_in (c.in-Some-of_request.row ∷ [])) keys p) c.as_slice.ensures (one_agrees keys c.as_slice.result.now c.in-Some-of_request.row c.in-Some-of_request.ensures))) c.act.ensures.segment

pub returns-in-None-clause-segment : goal.returns-in-None-clause-segment
returns-in-None-clause-segment c =
    let view = sighting_at (taken c.args.intake.now) in
    let keys = key_for c.args.credentials.now in
    let x = c.in-Some.arrives.now in
    let y = c.in-Some-sighting.leaves.now in
    let there = sym c.sighting.ensures ∙ ap option_copied c.in-Some.is in
    let there_y = sym c.sighting-2.ensures ∙ ap option_copied c.in-Some-sighting.is in
    let id = name_is (taken c.args.intake.now) c.sightings_are_numbered.ensures c.args.arrival x there in
    let id_y = name_is (taken c.args.intake.now) c.sightings_are_numbered.ensures c.args.departure y there_y in
    on_ok_weaker c.act-in-None.result (act_named c.args.self.now.policy keys view [] c.args.pair c.args.arrival c.args.departure x y c.args.moment (cut_of c.args.self.now) (cut_of c.act-in-None.new.self) id id_y there there_y
    (subst (λ (p : List ℕ). AgreeInRequest (key_in []) keys p) c.as_slice.ensures (nobody_agrees keys c.as_slice.result.now c.in-None.ensures))) c.act-in-None.ensures.segment
