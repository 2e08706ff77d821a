-- If the ids among all captured sightings stay the same, the cut does.
use Rattle.std.proofs.Common.{◌≡◌, ◌+◌, ℕ, Bool, true, false, cond, Option, None, List, refl, sym, ◌∙◌, ap}
use Rattle.std.specs.Prelude.{is_some, slice_index_or}
use Rattle.audit_model.specs.declared.sighting.SightId.{SightId}
use Rattle.audit_segments.specs.Shifted.{is_below, unshifted, from_base}
use Rattle.audit_cuts.specs.declared.carried.Came.{Came}
use Rattle.audit_cuts.specs.declared.carried.Carried.{Carried}
use Rattle.audit_cuts.specs.Absolute.{absolute_cut}
use Rattle.audit_cuts.specs.Carried.{allocation_in, base_in, placed_in, moment_in}
use Rattle.audit_cuts.specs.Rebasing.{absolute_times, totals}
use Rattle.audit_cuts.proofs.Absolute.{moment_among, from_absolute, total_at, excluded_by_id}

-- of a departure that was sent exactly if it is owed
sent_from_base : (base : ℕ → ℕ) (owed : SightId → Option ℕ) (t : SightId) → from_base base false (λ s. is_some (owed s)) t ≡ is_some (from_base base None owed t)
sent_from_base base owed t = elim (is_below base t) as (λ b. cond b false (is_some (owed (unshifted base t))) ≡ is_some (cond b None (owed (unshifted base t)))) [
  | true ↦ refl
  | false ↦ refl
]

module _ (old new : Carried) where
  abbrev B : ℕ → ℕ
  B = base_in old.interfaces.items

  abbrev C : ℕ → ℕ
  C = base_in new.interfaces.items

  times : (one other : List Came) → absolute_times C other ≡ absolute_times B one → (s : SightId) → from_base C None (moment_in other) s ≡ from_base B None (moment_in one) s
  times one other e s = from_absolute C other s ∙ ap (λ l. moment_among l s) e ∙ sym (from_absolute B one s)

  pub same_cut : new.clients ≡ old.clients → new.moment ≡ old.moment → absolute_times C new.waiting.items ≡ absolute_times B old.waiting.items
      → absolute_times C new.owed.items ≡ absolute_times B old.owed.items → totals new.interfaces.items ≡ totals old.interfaces.items
      → (excluded : SightId → Bool) → absolute_cut new excluded ≡ absolute_cut old excluded
  same_cut clients moment waiting owed total excluded =
      let w = times old.waiting.items new.waiting.items waiting in
      let o = times old.owed.items new.owed.items owed in
      let sent : (t : SightId) → from_base C false (λ s. is_some (moment_in new.owed.items s)) t ≡ from_base B false (λ s. is_some (moment_in old.owed.items s)) t =
      λ t. sent_from_base C (moment_in new.owed.items) t ∙ ap is_some (o t) ∙ sym (sent_from_base B (moment_in old.owed.items) t) in
      let placed : (iface : ℕ) → C iface + placed_in new.interfaces.items iface ≡ B iface + placed_in old.interfaces.items iface =
      λ iface. total_at new.interfaces.items iface ∙ ap (λ l. slice_index_or l iface 0) total ∙ sym (total_at old.interfaces.items iface) in
      λ n. record {
        state = record {
          table = allocation_in (clients n).items;
          waiting = λ s. w s n;
          owed = λ s. o s n;
          sent = λ t. sent t n;
          now = moment n;
        };
        placed = λ iface. placed iface n;
        excluded = λ s. (excluded_by_id C excluded s ∙ sym (excluded_by_id B excluded s)) n;
      }
