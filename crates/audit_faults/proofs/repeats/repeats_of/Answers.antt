use Rattle.std.proofs.Common.{◌≡◌, ◌∷◌, [], ℕ, IfSome, List, Option, length, arith, sym, subst, ap, length-append}
use Rattle.audit_sightings.specs.Intake.{taken}
use Rattle.audit_faults.specs.Repeats.{AreRepeats, IsRepeated}
use Rattle.audit_faults.proofs.Repeating.{more_repeats, no_repeats}
use Rattle.audit_faults.proofs.repeats.repeats_of.Goals as goal

pub places-init : goal.places-init
places-init c = record {
  count = ap length c.new-repeats.ensures.items;
  are = subst (AreRepeats (taken c.args.intake.now) c.args.places.now) (sym c.new-repeats.ensures.items) (no_repeats (taken c.args.intake.now) c.args.places.now);
}

pub places-preserved : goal.places-preserved
places-preserved c =
    let taken = taken c.args.intake.now in
    let places = c.args.places.now in
    let repeats = c.places.repeats.items in
    let before = c.in_ok-before.before in
    let count : length repeats ≡ c.places.place = c.places.invariant.count in
    let one : IfSome before (λ b. IsRepeated taken places b (length repeats)) = subst (λ (n : ℕ). IfSome before (λ b. IsRepeated taken places b n)) (sym count) c.in_ok-before.ensures in
    let items = c.in_ok-push.ensures.items in
    record {
      count = omega (arith, ap (λ (xs : List (Option ℕ)). length xs) items, length-append repeats (before ∷ []), count);
      are = subst (AreRepeats taken places) (sym items) (more_repeats taken places repeats before c.places.invariant.are one);
    }
