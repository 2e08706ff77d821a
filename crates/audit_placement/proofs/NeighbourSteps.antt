-- What neighbours on an interface show, as one more comes.
use Rattle.std.proofs.Common.{◌≡◌, ◌<◌, ◌+◌, ◌-◌, ℕ, Bool, true, false, cond, List, [], ◌∷◌, ◌++◌, length, Option, Some, None, ◌⊎◌, inl, inr, refl, sym, ap, ◌∙◌, subst, arith, length-append, length-take, take, get_or, ◌≤◌}
use Rattle.std.specs.Ordering.{is_gt}
use Rattle.std.proofs.lemmas.List.{get_or_past, take_more, take_all}
use Rattle.std.proofs.lemmas.Option.{none-some, same_Some, slice_get-get_or}
use Rattle.std.proofs.lemmas.Bool.{cases_lt}
use Rattle.audit_model.specs.declared.event.At.{At}
use Rattle.audit_model.specs.declared.sighting.SightId.{SightId}
use Rattle.audit_model.specs.declared.sighting.Sighting.{Sighting}
use Rattle.audit_model.specs.declared.rule.Rule.TheVariants.{InterfaceOrder}
use Rattle.audit_model.specs.declared.verdict.Breach.{Breach}
use Rattle.audit_model.specs.Breach.{key_cmp, lesser}
use Rattle.audit_model.specs.Least.{IsLeast}
use Rattle.audit_model.proofs.LeastBreach.{least_same}
use Rattle.audit_sightings.specs.Intake.{Taken, interface_at}
use Rattle.audit_sightings.specs.ByInterface.{IsNumbered}
use Rattle.audit_placement.specs.declared.entry.Entry.{Entry}
use Rattle.audit_placement.specs.Checks.{breach_at}
use Rattle.audit_placement.specs.FirstPlace.{first_place}
use Rattle.audit_placement.specs.Neighbours.{order_breach}
use Rattle.audit_placement.specs.Shows.{ShowsInterfaceOrder}
use Rattle.audit_placement.proofs.LeastOfTwo.{least_both, least_found}

-- where the sighting before that index is placed first
pub record IsBefore (entries : List Entry) (iface index : ℕ) (before : Option At) : Type 0 where
  pub none : index ≡ 0 → before ≡ None
  pub some : (k : ℕ) → index ≡ k + 1 → before ≡ first_place entries (record { iface = iface; index = k })

module _ (entries : List Entry) (iface : ℕ) (row : List Sighting) (new : Sighting) (before : Option At)
    (numbered : new.id ≡ record { iface = iface; index = length row }) (is_before : IsBefore entries iface (length row) before) where
  abbrev pub found : Option Breach
  found = order_breach before (first_place entries new.id) new

  abbrev Now : Breach → Type 0
  Now = ShowsInterfaceOrder entries iface (length (row ++ new ∷ []))

  still : (b : Breach) → ShowsInterfaceOrder entries iface (length row) b → Now b
  still b shown = record {
    index = shown.index;
    before = shown.before;
    at = shown.at;
    there = omega (arith, shown.there, length-append row (new ∷ []));
    first = shown.first;
    second = shown.second;
    not_greater = shown.not_greater;
    told = shown.told;
  }

  new_order : (b : Breach) (at behind : At) → first_place entries new.id ≡ Some at → before ≡ Some behind → (greater : Bool) → is_gt (key_cmp at.key behind.key) ≡ greater
      → cond greater None (Some (breach_at at InterfaceOrder new.id)) ≡ Some b → Now b
  new_order b at behind is there true greater shown = absurd (none-some b shown)
  new_order b at behind is there false greater shown =
      let some : 0 < length row = elim (cases_lt 0 (length row)) [ inl h ↦ h | inr h ↦ absurd (none-some behind (sym (is_before.none (omega (arith, h))) ∙ there)) ] in
      let last : ℕ = length row - 1 in
      let next : length row ≡ last + 1 = omega (arith, some) in
      let named : new.id ≡ record { iface = iface; index = last + 1 } = numbered ∙ ap (λ (n : ℕ). let id : SightId = record { iface = iface; index = n } in id) next in
      record {
        index = last;
        before = behind;
        at = at;
        there = omega (arith, some, length-append row (new ∷ []));
        first = sym (is_before.some last next) ∙ there;
        second = sym (ap (first_place entries) named) ∙ is;
        not_greater = greater;
        told = sym (same_Some _ b shown) ∙ ap (breach_at at InterfaceOrder) named;
      }

  new_shown : (b : Breach) (o place : Option At) → before ≡ o → first_place entries new.id ≡ place → order_breach o place new ≡ Some b → Now b
  new_shown b None place there is shown = absurd (none-some b shown)
  new_shown b (Some behind) None there is shown = absurd (none-some b shown)
  new_shown b (Some behind) (Some at) there is shown = new_order b at behind is there (is_gt (key_cmp at.key behind.key)) refl shown

  old_or_new : (b : Breach) → Now b → ShowsInterfaceOrder entries iface (length row) b ⊎ (found ≡ Some b)
  old_or_new b shown = elim (cases_lt (shown.index + 1) (length row)) [
    | inl within ↦ inl (record {
      index = shown.index;
      before = shown.before;
      at = shown.at;
      there = within;
      first = shown.first;
      second = shown.second;
      not_greater = shown.not_greater;
      told = shown.told;
    })
    | inr past ↦
        let last : length row ≡ shown.index + 1 = omega (arith, past, shown.there, length-append row (new ∷ [])) in
        let named : new.id ≡ record { iface = iface; index = shown.index + 1 } = numbered ∙ ap (λ (n : ℕ). let id : SightId = record { iface = iface; index = n } in id) last in
        let placed : first_place entries new.id ≡ Some shown.at = ap (first_place entries) named ∙ shown.second in
        let behind : before ≡ Some shown.before = is_before.some shown.index last ∙ shown.first in
        inr (rw (placed, behind, shown.not_greater) (ap Some (ap (breach_at shown.at InterfaceOrder) named ∙ sym shown.told)))
  ]

  -- one sighting more
  pub least_next : (least : Option Breach) → IsLeast (ShowsInterfaceOrder entries iface (length row)) least → IsLeast Now (lesser least found)
  least_next least is =
      least_same (λ b. ShowsInterfaceOrder entries iface (length row) b ⊎ (found ≡ Some b)) Now
      (λ b shown. elim shown [ inl h ↦ still b h | inr h ↦ new_shown b before (first_place entries new.id) refl refl h ])
      old_or_new
      (lesser least found) (least_both (ShowsInterfaceOrder entries iface (length row)) (λ b. found ≡ Some b) least found is (least_found found))

-- the loop over an interface goes on by one sighting
pub sighting_next : (entries : List Entry) (iface : ℕ) (row : List Sighting) (index : ℕ) (sighting : Sighting) (before place : Option At) (least found next : Option Breach)
    → index < length row → sighting ≡ get_or row index sighting → IsNumbered iface row
    → IsLeast (ShowsInterfaceOrder entries iface (length (take index row))) least → IsBefore entries iface index before
    → place ≡ first_place entries sighting.id → found ≡ order_breach before place sighting → next ≡ lesser least found
    → IsLeast (ShowsInterfaceOrder entries iface (length (take (index + 1) row))) next × IsBefore entries iface (index + 1) place
sighting_next entries iface row index sighting before place least found next within is numbered shown is_before placed found_is next_is =
    let count : length (take index row) ≡ index = omega (arith, length-take index row) in
    let named : sighting.id ≡ record { iface = iface; index = index } = numbered index sighting (slice_get-get_or row index sighting within ∙ ap Some (sym is)) in
    let grown : take (index + 1) row ≡ take index row ++ sighting ∷ [] = take_more row index sighting within ∙ ap (λ (s : Sighting). take index row ++ s ∷ []) (sym is) in (
      rw (grown, next_is, found_is, placed)
          (least_next entries iface (take index row) sighting before (rw count named) (rw count is_before) least shown),
      record {
        none = λ zero. absurd (omega (arith, zero));
        some = λ k same. let here : index ≡ k = omega (arith, same) in placed ∙ ap (first_place entries) (named ∙ ap (λ (n : ℕ). let id : SightId = record { iface = iface; index = n } in id) here);
      },
    )

-- at its end it has seen all of them
pub rest_of : (entries : List Entry) (iface : ℕ) (row : List Sighting) (index : ℕ) (least : Option Breach) → length row ≤ index
    → IsLeast (ShowsInterfaceOrder entries iface (length (take index row))) least → IsLeast (ShowsInterfaceOrder entries iface (length row)) least
rest_of entries iface row index least past shown =
    subst (λ (seen : List Sighting). IsLeast (ShowsInterfaceOrder entries iface (length seen)) least) (take_all index row past) shown

-- past the last interface nothing is shown
pub none_past : (taken : Taken) (entries : List Entry) (iface : ℕ) (b : Breach) → length taken.interfaces ≤ iface → ¬ ShowsInterfaceOrder entries iface (length (interface_at taken iface)) b
none_past taken entries iface b past shown =
    let none : length (interface_at taken iface) ≡ 0 = ap length (get_or_past taken.interfaces iface [] past) in
    omega (arith, shown.there, none)
