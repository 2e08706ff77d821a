-- The cut by ids among all captured sightings depends on these ids alone.
use Rattle.std.proofs.Common.{◌≡◌, ◌≤◌, ◌+◌, ◌-◌, ℕ, zero, suc, Bool, true, false, cond, Option, Some, None, List, [], ◌∷◌, refl, sym, ◌∙◌, ap, arith}
use Rattle.std.specs.Prelude.{slice_index_or}
use Rattle.std.proofs.lemmas.Bool.{true≢false, cond-true, cond-false, ltb-false, le-ltb}
use Rattle.audit_model.specs.declared.sighting.SightId.{SightId}
use Rattle.audit_model.specs.Sames.{same_sight}
use Rattle.audit_model.proofs.Sames.{sight_true, sight_same, sight_apart, sight_false}
use Rattle.audit_segments.specs.Shifted.{shifted, is_below, unshifted, from_base}
use Rattle.audit_cuts.specs.declared.carried.Came.{Came}
use Rattle.audit_cuts.specs.declared.carried.Interface.{Interface}
use Rattle.audit_cuts.specs.Carried.{moment_in, base_in, placed_in}
use Rattle.audit_cuts.specs.Rebasing.{absolute_times, totals}

-- the moment of the first entry of the list that is of this sighting
abbrev pub moment_among : List (SightId × ℕ) → SightId → Option ℕ
moment_among [] s = None
moment_among (p ∷ rest) s = cond (same_sight p.0 s) (Some p.1) (moment_among rest s)

module _ (base : ℕ → ℕ) where
  shifted_not_below : (s : SightId) → is_below base (shifted base s) ≡ false
  shifted_not_below s = le-ltb (base s.iface + s.index) (base s.iface) (omega arith)

  unshifted_shifted : (s : SightId) → unshifted base (shifted base s) ≡ s
  unshifted_shifted s = let e : (base s.iface + s.index) - base s.iface ≡ s.index = omega arith in λ n. record { iface = s.iface; index = e n }

  shifted_unshifted : (s : SightId) → is_below base s ≡ false → shifted base (unshifted base s) ≡ s
  shifted_unshifted s h =
      let le : base s.iface ≤ s.index = ltb-false s.index (base s.iface) h in
      let e : base s.iface + (s.index - base s.iface) ≡ s.index = omega (arith, le) in
      λ n. record { iface = s.iface; index = e n }

  apart_below : (c s : SightId) → is_below base s ≡ true → same_sight (shifted base c) s ≡ false
  apart_below c s h = sight_apart (shifted base c) s (λ e. true≢false (sym h ∙ ap (is_below base) (sym e) ∙ shifted_not_below c))

  same_unshifted : (c s : SightId) → is_below base s ≡ false → same_sight (shifted base c) s ≡ same_sight c (unshifted base s)
  same_unshifted c s h = elim (same_sight c (unshifted base s)) as (λ b. same_sight c (unshifted base s) ≡ b → same_sight (shifted base c) s ≡ b) [
    | true ↦ λ k. sight_same (shifted base c) s (ap (shifted base) (sight_true c (unshifted base s) k) ∙ shifted_unshifted s h)
    | false ↦ λ k. sight_apart (shifted base c) s (λ e. sight_false c (unshifted base s) k (sym (unshifted_shifted c) ∙ ap (unshifted base) e))
  ] refl

  below_none : (times : List Came) (s : SightId) → is_below base s ≡ true → moment_among (absolute_times base times) s ≡ None
  below_none [] s h = refl
  below_none (c ∷ rest) s h = cond-false (same_sight (shifted base c.sight) s) (Some c.moment) (moment_among (absolute_times base rest) s) (apart_below c.sight s h) ∙ below_none rest s h

  at_absolute : (times : List Came) (s : SightId) → is_below base s ≡ false → moment_among (absolute_times base times) s ≡ moment_in times (unshifted base s)
  at_absolute [] s h = refl
  at_absolute (c ∷ rest) s h = ap (λ b. cond b (Some c.moment) (moment_among (absolute_times base rest) s)) (same_unshifted c.sight s h) ∙ ap (λ m. cond (same_sight c.sight (unshifted base s)) (Some c.moment) m) (at_absolute rest s h)

  pub from_absolute : (times : List Came) (s : SightId) → from_base base None (moment_in times) s ≡ moment_among (absolute_times base times) s
  from_absolute times s = elim (is_below base s) as (λ b. is_below base s ≡ b → from_base base None (moment_in times) s ≡ moment_among (absolute_times base times) s) [
    | true ↦ λ h. cond-true (is_below base s) None (moment_in times (unshifted base s)) h ∙ sym (below_none times s h)
    | false ↦ λ h. cond-false (is_below base s) None (moment_in times (unshifted base s)) h ∙ sym (at_absolute times s h)
  ] refl

-- the placed sightings of an interface, those before its base included
pub total_at : (interfaces : List Interface) (iface : ℕ) → base_in interfaces iface + placed_in interfaces iface ≡ slice_index_or (totals interfaces) iface 0
total_at [] iface = refl
total_at (i ∷ rest) zero = refl
total_at (i ∷ rest) (suc n) = total_at rest n

-- a sighting below the base is excluded by its id, and one from there on by its id from the base
pub excluded_by_id : (base : ℕ → ℕ) (excluded : SightId → Bool) (s : SightId) → cond (is_below base s) (excluded s) (excluded (shifted base (unshifted base s))) ≡ excluded s
excluded_by_id base excluded s = elim (is_below base s) as (λ b. is_below base s ≡ b → cond (is_below base s) (excluded s) (excluded (shifted base (unshifted base s))) ≡ excluded s) [
  | true ↦ λ h. cond-true (is_below base s) (excluded s) (excluded (shifted base (unshifted base s))) h
  | false ↦ λ h. cond-false (is_below base s) (excluded s) (excluded (shifted base (unshifted base s))) h ∙ ap excluded (shifted_unshifted base s h)
] refl
