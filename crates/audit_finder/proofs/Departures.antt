-- What is noted of departures.
use Rattle.std.proofs.Common.{◌≡◌, ◌≢◌, ◌∙◌, ◌<◌, ℕ, List, Bool, true, false, Vec, [], length, map, set, get_or, ap, arith, sym, refl}
use mathlib.Core.Logic.{inl, inr}
use mathlib.Core.Bool.{true≢false}
use Rattle.std.proofs.lemmas.Bool.Decides.{eqb_tells}
use Rattle.std.proofs.lemmas.Grind.{get_or-set_at}
use Rattle.std.proofs.lemmas.List.{get_or-set_other, get_or-map, map-set, length-map}
use Rattle.std.specs.declared.alloc.Global.{Global}
use Rattle.audit_model.specs.declared.sighting.SightId.{SightId}
use Rattle.audit_model.specs.Sames.{same_sight}
use Rattle.audit_finder.specs.Departures.{has_left}

abbrev items : Vec Bool Global → List Bool
items row = row.items

module _ (rows : List (Vec Bool Global)) (row after : Vec Bool Global) (i j : ℕ) (s : SightId) (within : i < length rows)
    (here : row ≡ get_or rows i row) (inside : j < length row.items) (is : after.items ≡ set row.items j true) where
  moved : map items (set rows i after) ≡ set (map items rows) i (set row.items j true)
  moved = map-set items rows i after ∙ ap (set (map items rows) i) is

  same_row : s.iface ≡ i → get_or (map items (set rows i after)) s.iface [] ≡ set row.items j true
  same_row same = ap (λ (rs : List (List Bool)). get_or rs s.iface []) moved
      ∙ get_or-set_at (map items rows) i s.iface (set row.items j true) [] same (omega (arith, within, length-map rows items))

  other_row : s.iface ≢ i → get_or (map items (set rows i after)) s.iface [] ≡ get_or (map items rows) s.iface []
  other_row other = ap (λ (rs : List (List Bool)). get_or rs s.iface []) moved ∙ get_or-set_other (map items rows) i s.iface (set row.items j true) [] other

  was_here : s.iface ≡ i → get_or (map items rows) s.iface [] ≡ row.items
  was_here same = ap (λ (n : ℕ). get_or (map items rows) n []) same
      ∙ get_or-map items rows i row [] within ∙ ap items (sym here)

  -- what hasn't left once one more is noted hadn't left before, and isn't that one
  pub noted : has_left (set rows i after) s ≡ false → (has_left rows s ≡ false) × (same_sight s (record { iface = i; index = j }) ≡ false)
  noted free = elim (eqb_tells s.iface i) [
    | inl p ↦ elim (eqb_tells s.index j) [
      | inl q ↦ absurd (true≢false (sym (ap (λ (l : List Bool). get_or l s.index true) (same_row p.1) ∙ get_or-set_at row.items j s.index true true q.1 inside) ∙ free))
      | inr q ↦ (
        ap (λ (l : List Bool). get_or l s.index true) (was_here p.1) ∙ sym (get_or-set_other row.items j s.index true true q.1)
            ∙ sym (ap (λ (l : List Bool). get_or l s.index true) (same_row p.1)) ∙ free,
        rw (p.0, q.0) refl,
      )
    ]
    | inr p ↦ (sym (ap (λ (l : List Bool). get_or l s.index true) (other_row p.1)) ∙ free, rw (p.0) refl)
  ]
