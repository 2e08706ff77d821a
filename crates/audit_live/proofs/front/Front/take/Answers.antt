use Rattle.std.proofs.Common.{ℕ, List, All, Some, refl, sym, subst}
use Rattle.audit_keys.specs.KeyFor.{key_for}
use Rattle.audit_model.specs.declared.event.Event.{Event}
use Rattle.audit_sightings.specs.Intake.{taken, NamesWhatIsThere}
use Rattle.audit_live.specs.declared.front.Front.{Front}
use Rattle.audit_live.proofs.Fronts.{extension_named, knows_on, lanes_there, shows_whole, takes_lanes}
use Rattle.audit_live.proofs.front.Front.take.Goals as goal

pub returns-in-Err-clause-takes_extension : goal.returns-in-Err-clause-takes_extension
returns-in-Err-clause-takes_extension c = record {
  extends = c.in_ok-breach.ensures.extends;
  of_placement = Some c.in-Err.breach;
  least = rw c.in-Err.is at (c.in_ok-breach.ensures.breach c.requires.knows.before c.requires.knows.keeps c.requires.knows.stays);
  reports = refl;
}

pub take-requires-clause-named : goal.take-requires-clause-named
take-requires-clause-named c =
    let named = rw c.in_default.is at (c.in_ok-breach.ensures.named c.requires.knows.before c.requires.knows.keeps c.requires.knows.stays) in
    subst (λ (es : List (ℕ × Event)). All (λ (e : ℕ × Event). NamesWhatIsThere (taken c.args.intake.now) e.1) es) (sym c.as_slice-2.ensures)
    (extension_named (taken c.args.intake.now) c.args.self.now.placing.certificate c.add.new.self.certificate c.args.extension.now c.in_ok-breach.ensures.extends c.requires.fits.room named)

pub returns-clause-takes_extension : goal.returns-clause-takes_extension
returns-clause-takes_extension c =
    let none = rw c.in_default.is at (c.in_ok-breach.ensures.passes c.requires.knows.before c.requires.knows.keeps c.requires.knows.stays) in
    let new : Front = record { placing = c.add.new.self; lanes = c.take.new.self } in
    takes_lanes (taken c.args.intake.now) (key_for c.args.credentials.now) c.args.last c.args.self.now new c.add-2.new.self c.args.extension.now c.in_ok-breach.ensures.extends
    c.as_slice.result.now c.as_slice.ensures c.as_slice-2.result.now c.as_slice-2.ensures none c.in_ok-add.ensures.lanes c.in_ok-add.ensures.rest.0 c.in_ok-add.ensures.rest.1 c.take.result c.take.ensures.takes

pub returns-in-Err-clause-shows : goal.returns-in-Err-clause-shows
returns-in-Err-clause-shows c = λ horizon may.
    (Some c.in-Err.breach, rw c.in-Err.is at (c.in_ok-breach.ensures.breach c.requires.knows.before c.requires.knows.keeps c.requires.knows.stays), refl)

pub returns-clause-shows : goal.returns-clause-shows
returns-clause-shows c = λ horizon may.
    let new : Front = record { placing = c.add.new.self; lanes = c.take.new.self } in
    shows_whole (taken c.args.intake.now) (key_for c.args.credentials.now) c.args.last c.args.self.now new c.args.extension.now c.requires.knows horizon may c.take.result (returns-clause-takes_extension c)

pub returns-clause-knows : goal.returns-clause-knows
returns-clause-knows c = λ horizon may.
    let new : Front = record { placing = c.add.new.self; lanes = c.take.new.self } in
    knows_on (taken c.args.intake.now) (key_for c.args.credentials.now) c.args.last c.args.self.now new c.args.extension.now c.requires.knows horizon may
    (c.in_ok-breach.ensures.keeps c.requires.knows.before c.requires.knows.keeps c.requires.knows.stays) c.take.result (returns-clause-takes_extension c)
    (lanes_there (taken c.args.intake.now) (key_for c.args.credentials.now) c.args.last c.args.self.now new c.add-2.new.self c.args.extension.now c.in_ok-breach.ensures.extends
    c.as_slice.result.now c.as_slice.ensures c.requires.knows.lanes c.in_ok-add.ensures.count c.take.result c.take.ensures.count)
