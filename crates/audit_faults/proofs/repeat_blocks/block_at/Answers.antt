use Rattle.std.proofs.Common.{◌≡◌, ◌∙◌, ℕ, Some, length, rules, ap, arith, refl, subst, sym}
use Rattle.std.specs.Prelude.{slice_get}
use Rattle.std.proofs.lemmas.Option.{slice_get_read}
use Rattle.audit_model.specs.declared.sighting.Sighting.{Sighting}
use Rattle.audit_sightings.specs.Intake.{taken, sighting_at}
use Rattle.audit_faults.specs.RepeatBlocks.{IsRepeatedSince}
use Rattle.audit_faults.proofs.Repeating.{one_sighting}
use Rattle.audit_faults.proofs.repeat_blocks.block_at.Goals as goal

pub returns : goal.returns
returns c =
    let taken = taken c.args.intake.now in
    let places = c.args.places.now in
    let repeats = c.args.repeats.now in
    let place = c.args.place in
    let before = c.in-Some-Some.before in
    let earlier = c.in-Some-sighting.earlier.now in
    let noted = c.in-Some-Some.ensures.lookup in
    let is : c.in-Some-Some.field-0.now ≡ Some before = search rules in
    let there : slice_get repeats place ≡ Some (Some before) = slice_get_read repeats (length repeats) place c.in-Some-Some.field-0.now refl noted.3.0 noted.1 ∙ ap Some is in
    let placed = c.in-Some.ensures.lookup in
    let at : slice_get places before ≡ Some c.in-Some.one.now = slice_get_read places (length places) before c.in-Some.one.now refl placed.3.0 placed.1 in
    let sight : sighting_at taken c.in-Some.one.now.sight ≡ Some earlier = search rules in
    let repeated = c.requires place before there in
    let same : repeated.earlier ≡ earlier = one_sighting taken places before repeated.earlier earlier repeated.there (c.in-Some.one.now, at, sight) in
    record {
      inside = omega arith;
      all = λ ends k from to.
          let k-is : k ≡ place = omega (arith, from, to) in
          subst (λ (i : ℕ). IsRepeatedSince taken places before earlier.hi i) (sym k-is) (before, omega arith, (repeated, omega (arith, ap (λ (s : Sighting). s.hi) same)));
    }
