use Rattle.std.proofs.Common.{◌<◌, ℕ, List, All, Option, Some, None, sym, ap, ◌∙◌, subst}
use Rattle.std.specs.Prelude.{vec_len}
use Rattle.std.proofs.lemmas.Option.{none-some}
use Rattle.audit_keys.specs.KeyFor.{key_for}
use Rattle.audit_model.specs.declared.verdict.Breach.{Breach}
use Rattle.audit_model.specs.Clash.{ShowsClash}
use Rattle.audit_model.specs.Least.{IsLeast}
use Rattle.audit_sightings.specs.Intake.{taken}
use Rattle.audit_live.specs.CheckedTenancies.{checked_of}
use Rattle.audit_live.specs.Turn.{NotesTurn}
use Rattle.audit_live.proofs.Takes.{all_touched, turn_by_clash, turn_by_lanes}
use Rattle.audit_live.proofs.lanes.LiveLanes.take.Goals as goal

pub returns-in-Some-clause-takes : goal.returns-in-Some-clause-takes
returns-in-Some-clause-takes c =
    turn_by_lanes (taken c.args.intake.now) (key_for c.args.credentials.now) c.args.last c.args.self.now c.walk.new.self c.args.events.now c.in_ok-touched.touched.items c.in_ok-touched.ensures
    c.in_ok-breach.field-0 c.in-Some.breach c.in-Some.is c.in_ok-breach.ensures.walks c.walk.new.self

pub checked-requires : goal.checked-requires
checked-requires c =
    subst (λ (ns : List ℕ). All (λ (n : ℕ). n < vec_len c.walk.new.self.lanes) ns) (sym c.as_slice.ensures.value)
    (rw c.in_ok-breach.ensures.count (all_touched c.args.events.now c.in_ok-touched.touched.items (vec_len c.args.self.now.lanes) c.in_ok-touched.ensures c.requires.numbers))

pub returns-in-Some-2-clause-takes : goal.returns-in-Some-2-clause-takes
returns-in-Some-2-clause-takes c =
    let checked_is = c.as_slice-2.ensures.value ∙ c.in_ok-checked.ensures ∙ ap (checked_of c.walk.new.self.lanes.items c.walk.new.self.holders c.args.last) c.as_slice.ensures.value in
    turn_by_clash (taken c.args.intake.now) (key_for c.args.credentials.now) c.args.last c.args.self.now c.walk.new.self c.args.events.now c.in_ok-touched.touched.items c.in_ok-touched.ensures
    c.in_ok-breach.field-0 c.in_default.is c.in_ok-breach.ensures.walks c.as_slice-2.result.now checked_is (Some c.in-Some-2.breach)
    (subst (λ (found : Option Breach). IsLeast (ShowsClash c.as_slice-2.result.now) found) c.in-Some-2.is c.in_ok-breach-2.ensures)
    c.walk.new.self (λ is. absurd (none-some c.in-Some-2.breach (sym is)))

pub note-requires : goal.note-requires
note-requires c =
    subst (λ (ns : List ℕ). All (λ (n : ℕ). n < vec_len c.walk.new.self.lanes) ns) (sym c.as_slice-3.ensures.value)
    (rw c.in_ok-breach.ensures.count (all_touched c.args.events.now c.in_ok-touched.touched.items (vec_len c.args.self.now.lanes) c.in_ok-touched.ensures c.requires.numbers))

pub returns-clause-takes : goal.returns-clause-takes
returns-clause-takes c =
    let checked_is = c.as_slice-2.ensures.value ∙ c.in_ok-checked.ensures ∙ ap (checked_of c.walk.new.self.lanes.items c.walk.new.self.holders c.args.last) c.as_slice.ensures.value in
    turn_by_clash (taken c.args.intake.now) (key_for c.args.credentials.now) c.args.last c.args.self.now c.walk.new.self c.args.events.now c.in_ok-touched.touched.items c.in_ok-touched.ensures
    c.in_ok-breach.field-0 c.in_default.is c.in_ok-breach.ensures.walks c.as_slice-2.result.now checked_is None
    (subst (λ (found : Option Breach). IsLeast (ShowsClash c.as_slice-2.result.now) found) c.in_default-2.is c.in_ok-breach-2.ensures)
    c.note.new.self (λ is. subst (λ (ns : List ℕ). NotesTurn c.args.last ns c.walk.new.self c.note.new.self) c.as_slice-3.ensures.value c.in_ok-note.ensures.notes)
