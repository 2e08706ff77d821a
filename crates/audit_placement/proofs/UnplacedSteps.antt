-- What the sightings of an interface show that are placed nowhere, as one more comes.
use Rattle.std.proofs.Common.{◌≡◌, ◌<◌, ◌+◌, ℕ, Bool, true, false, cond, List, [], ◌∷◌, ◌++◌, length, Option, Some, None, ◌⊎◌, inl, inr, refl, sym, ap, ◌∙◌, subst, arith, take, get_or, ◌≤◌}
use Rattle.std.specs.Prelude.{is_some}
use Rattle.std.proofs.lemmas.Bool.{true≢false}
use Rattle.std.proofs.lemmas.List.Elements.{Contains-push, Contains-push_cases, Contains-append_left}
use Rattle.std.proofs.lemmas.List.{get_or_past, take_more, take_all}
use Rattle.std.proofs.lemmas.Option.{none-some, same_Some}
use Rattle.audit_model.specs.declared.event.At.{At}
use Rattle.audit_model.specs.declared.sighting.Sighting.{Sighting}
use Rattle.audit_model.specs.declared.verdict.Breach.{Breach}
use Rattle.audit_model.specs.Breach.{lesser}
use Rattle.audit_model.specs.Least.{IsLeast}
use Rattle.audit_model.proofs.LeastBreach.{least_same}
use Rattle.audit_sightings.specs.Intake.{Taken, interface_at}
use Rattle.audit_placement.specs.declared.entry.Entry.{Entry}
use Rattle.audit_placement.specs.FirstPlace.{first_place}
use Rattle.audit_placement.specs.Neighbours.{unplaced_breach}
use Rattle.audit_placement.specs.Shows.{ShowsUnplaced}
use Rattle.audit_placement.proofs.LeastOfTwo.{least_both, least_found}

module _ (entries : List Entry) (lanes drops : ℕ) (row : List Sighting) (new : Sighting) where
  abbrev pub found : Bool → Option Breach
  found placed = cond placed None (Some (unplaced_breach lanes drops new))

  nowhere_by : (place : Option At) → is_some place ≡ false → place ≡ None
  nowhere_by None is = refl
  nowhere_by (Some at) is = absurd (true≢false is)

  new_shown : (b : Breach) (placed : Bool) → placed ≡ is_some (first_place entries new.id) → found placed ≡ Some b → ShowsUnplaced entries lanes drops (row ++ new ∷ []) b
  new_shown b true is shown = absurd (none-some b shown)
  new_shown b false is shown = record { sighting = new; there = Contains-push row new; nowhere = nowhere_by (first_place entries new.id) (sym is); told = sym (same_Some _ b shown) }

  old_or_new : (b : Breach) (placed : Bool) → placed ≡ is_some (first_place entries new.id) → ShowsUnplaced entries lanes drops (row ++ new ∷ []) b
      → ShowsUnplaced entries lanes drops row b ⊎ (found placed ≡ Some b)
  old_or_new b placed is shown = elim (Contains-push_cases row new shown.sighting shown.there) [
    | inl there ↦ inl (record { sighting = shown.sighting; there = there; nowhere = shown.nowhere; told = shown.told })
    | inr same ↦
        let nowhere : first_place entries new.id ≡ None = ap (λ (s : Sighting). first_place entries s.id) same ∙ shown.nowhere in
        inr (ap found (is ∙ ap is_some nowhere) ∙ ap Some (ap (unplaced_breach lanes drops) same ∙ sym shown.told))
  ]

  -- one sighting more
  pub least_next : (least : Option Breach) (placed : Bool) → placed ≡ is_some (first_place entries new.id) → IsLeast (ShowsUnplaced entries lanes drops row) least
      → IsLeast (ShowsUnplaced entries lanes drops (row ++ new ∷ [])) (lesser least (found placed))
  least_next least placed tells is =
      least_same (λ b. ShowsUnplaced entries lanes drops row b ⊎ (found placed ≡ Some b)) (ShowsUnplaced entries lanes drops (row ++ new ∷ []))
      (λ b shown. elim shown [
        | inl h ↦ record { sighting = h.sighting; there = Contains-append_left row (new ∷ []) h.sighting h.there; nowhere = h.nowhere; told = h.told }
        | inr h ↦ new_shown b placed tells h
      ])
      (λ b shown. old_or_new b placed tells shown)
      (lesser least (found placed)) (least_both (ShowsUnplaced entries lanes drops row) (λ b. found placed ≡ Some b) least (found placed) is (least_found (found placed)))

-- the loop over an interface goes on by one sighting
pub sighting_next : (entries : List Entry) (lanes drops : ℕ) (row : List Sighting) (index : ℕ) (sighting : Sighting) (placed : Bool) (least found_now next : Option Breach)
    → index < length row → sighting ≡ get_or row index sighting
    → IsLeast (ShowsUnplaced entries lanes drops (take index row)) least
    → placed ≡ is_some (first_place entries sighting.id) → found_now ≡ cond placed None (Some (unplaced_breach lanes drops sighting)) → next ≡ lesser least found_now
    → IsLeast (ShowsUnplaced entries lanes drops (take (index + 1) row)) next
sighting_next entries lanes drops row index sighting placed least found_now next within is shown tells found_is next_is =
    let grown : take (index + 1) row ≡ take index row ++ sighting ∷ [] = take_more row index sighting within ∙ ap (λ (s : Sighting). take index row ++ s ∷ []) (sym is) in
    rw (grown, next_is, found_is) (least_next entries lanes drops (take index row) sighting least placed tells shown)

-- at its end it has seen all of them
pub rest_of : (entries : List Entry) (lanes drops : ℕ) (row : List Sighting) (index : ℕ) (least : Option Breach) → length row ≤ index
    → IsLeast (ShowsUnplaced entries lanes drops (take index row)) least → IsLeast (ShowsUnplaced entries lanes drops row) least
rest_of entries lanes drops row index least past shown = subst (λ (seen : List Sighting). IsLeast (ShowsUnplaced entries lanes drops seen) least) (take_all index row past) shown

-- past the last interface nothing is shown
pub none_past : (taken : Taken) (entries : List Entry) (lanes drops iface : ℕ) (b : Breach) → length taken.interfaces ≤ iface → ¬ ShowsUnplaced entries lanes drops (interface_at taken iface) b
none_past taken entries lanes drops iface b past shown =
    let none : length (interface_at taken iface) ≡ 0 = ap length (get_or_past taken.interfaces iface [] past) in
    omega (arith, shown.there.1, none)
