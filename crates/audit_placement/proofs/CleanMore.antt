-- Clean entries stay clean as one more comes that is taken, and as sightings come.
use Rattle.std.proofs.Common.{◌≡◌, ℕ, ◌+◌, Bool, true, false, cond, List, ◌∷◌, ◌++◌, All, Option, Some, ◌⊎◌, inl, inr, refl, sym, ap, ◌∙◌, subst, arith}
use Rattle.std.specs.Prelude.{is_some}
use Rattle.std.specs.Ordering.{is_gt}
use Rattle.std.proofs.lemmas.Bool.{true≢false}
use Rattle.std.proofs.lemmas.List.Elements.{All-cons, All-append, All-weaker}
use Rattle.std.proofs.lemmas.Option.{none-some, same_Some}
use Rattle.audit_model.specs.declared.event.Event.{Event}
use Rattle.audit_model.specs.declared.event.Event.TheVariants.{In, Act, Out}
use Rattle.audit_model.specs.declared.event.Key.{Key}
use Rattle.audit_model.specs.declared.sighting.SightId.{SightId}
use Rattle.audit_model.specs.Breach.{key_cmp}
use Rattle.audit_model.specs.Event.{key_of}
use Rattle.audit_sightings.specs.Intake.{Taken}
use Rattle.audit_placement.specs.declared.entry.Entry.{Entry}
use Rattle.audit_placement.specs.Clean.{IsFine, IsClean, PlacesAt, PlacesEvent, Takes, times_placed, one_if}
use Rattle.audit_placement.specs.FirstPlace.{places}
use Rattle.audit_model.specs.Sames.{same_sight}
use Rattle.audit_placement.proofs.FirstPush.{same_is}
use Rattle.audit_placement.proofs.CleanSteps.{all_left, all_right, times_cons, times_append}

-- no sighting, or one
abbrev NoneOrOne : (SightId → Option Key) → Event → (SightId → Option Key) → Type 0
NoneOrOne noted event now =
    (((s : SightId) → places event s ≡ false) × ((s : SightId) → now s ≡ noted s))
    ⊎ ((sight : SightId) × ((s : SightId) → places event s ≡ same_sight sight s) × PlacesAt noted sight (key_of event) now)

none_or_one : (noted now : SightId → Option Key) (event : Event) → PlacesEvent noted event now → NoneOrOne noted event now
none_or_one noted now (In sight key) placed = inr (sight, (λ s. refl), placed)
none_or_one noted now (Act arrival departure key) placed = inl ((λ s. refl), placed)
none_or_one noted now (Out sight key) placed = inr (sight, (λ s. refl), placed)

not_next : (iface index : ℕ) (sight : SightId) → same_sight sight (record { iface = iface; index = index }) ≡ true
    → ¬ (same_sight sight (record { iface = iface; index = index + 1 }) ≡ true)
not_next iface index sight one other =
    let here = ap (λ (s : SightId). s.index) (same_is sight _ one) in
    let next = ap (λ (s : SightId). s.index) (same_is sight _ other) in
    omega (arith, here, next)

module _ (taken : Taken) (noted now : SightId → Option Key) where
  -- what is noted at other sightings stays
  told_by : (sight : SightId) (key : Key) → PlacesAt noted sight key now → (s : SightId) (k : Key) (same : Bool) → same_sight sight s ≡ same → noted s ≡ Some k → now s ≡ Some k
  told_by sight key placed s k true is told = absurd (none-some k (sym placed.free ∙ ap noted (same_is sight s is) ∙ told))
  told_by sight key placed s k false is told = placed.set s ∙ ap (λ b. cond b (Some key) (noted s)) is ∙ told

  fine_still : (sight : SightId) (key : Key) → PlacesAt noted sight key now → (e : Entry) → IsFine taken noted e → IsFine taken now e
  fine_still sight key placed e fine = record { own = fine.own; told = λ s this. told_by sight key placed s e.at.key (same_sight sight s) refl (fine.told s this) }

  new_fine : (sight : SightId) (key : Key) → PlacesAt noted sight key now → (e : Entry) → ((s : SightId) → places e.event s ≡ same_sight sight s) → e.at.key ≡ key
      → (s : SightId) → places e.event s ≡ true → now s ≡ Some e.at.key
  new_fine sight key placed e one at s this = placed.set s ∙ ap (λ b. cond b (Some key) (noted s)) (sym (one s) ∙ this) ∙ ap Some (sym at)

  once_by : (sight : SightId) (key : Key) → PlacesAt noted sight key now → (s : SightId) (same : Bool) → same_sight sight s ≡ same
      → one_if same + one_if (is_some (noted s)) ≡ one_if (is_some (now s))
  once_by sight key placed s true is =
      ap (λ (o : Option Key). 1 + one_if (is_some o)) (sym (ap noted (same_is sight s is)) ∙ placed.free)
      ∙ sym (ap (λ (o : Option Key). one_if (is_some o)) (placed.set s ∙ ap (λ b. cond b (Some key) (noted s)) is))
  once_by sight key placed s false is =
      let now_is : one_if (is_some (now s)) ≡ one_if (is_some (noted s)) = ap (λ (o : Option Key). one_if (is_some o)) (placed.set s ∙ ap (λ b. cond b (Some key) (noted s)) is) in
      omega (arith, now_is)

  order_by : (sight : SightId) (key : Key) → PlacesAt noted sight key now → (entries : List Entry) → IsClean taken noted entries → (iface index : ℕ) (before at : Key)
      → (here next : Bool) → same_sight sight (record { iface = iface; index = index }) ≡ here → same_sight sight (record { iface = iface; index = index + 1 }) ≡ next
      → cond here (Some key) (noted (record { iface = iface; index = index })) ≡ Some before
      → cond next (Some key) (noted (record { iface = iface; index = index + 1 })) ≡ Some at → is_gt (key_cmp at before) ≡ true
  order_by sight key placed entries clean iface index before at false false apart apart_too first second = clean.order iface index before at first second
  order_by sight key placed entries clean iface index before at true true same same_too first second = absurd (not_next iface index sight same same_too)
  order_by sight key placed entries clean iface index before at true false same apart first second =
      let is = same_is sight _ same in
      let ahead = placed.ahead at (ap (λ (x : SightId). noted (record { iface = x.iface; index = x.index + 1 })) is ∙ second) in
      subst (λ (k : Key). is_gt (key_cmp at k) ≡ true) (same_Some key before first) ahead
  order_by sight key placed entries clean iface index before at false true apart same first second =
      let is = same_is sight _ same in
      let behind = placed.behind index before (ap (λ (x : SightId). x.index) is) (ap (λ (x : SightId). noted (record { iface = x.iface; index = index })) is ∙ first) in
      subst (λ (k : Key). is_gt (key_cmp k before) ≡ true) (same_Some key at second) behind

  module _ (xs ys : List Entry) (new : Entry) (clean : IsClean taken noted (xs ++ ys)) (own : IsFine taken now new) where
    with_new : ((e : Entry) → IsFine taken noted e → IsFine taken now e) → All (IsFine taken now) (xs ++ new ∷ ys)
    with_new still =
        let left = All-weaker (IsFine taken noted) (IsFine taken now) still xs (all_left (IsFine taken noted) xs ys clean.fine) in
        let right = All-weaker (IsFine taken noted) (IsFine taken now) still ys (all_right (IsFine taken noted) xs ys clean.fine) in
        All-append (IsFine taken now) xs (new ∷ ys) left (All-cons (IsFine taken now) new ys own right)

    times_with : (s : SightId) → times_placed (xs ++ new ∷ ys) s ≡ one_if (places new.event s) + one_if (is_some (noted s))
    times_with s = omega (arith, clean.once s, times_append xs ys s, times_append xs (new ∷ ys) s, times_cons new ys s)

  -- an entry more, wherever it stands
  clean_by : (xs ys : List Entry) (new : Entry) → IsClean taken noted (xs ++ ys) → Takes taken noted new.pair new.last new.event now → new.at.key ≡ key_of new.event
      → NoneOrOne noted new.event now → IsClean taken now (xs ++ new ∷ ys)
  clean_by xs ys new clean takes at (inl none) =
      let own : IsFine taken now new = record { own = takes.own; told = λ s this. absurd (true≢false (sym this ∙ none.0 s)) } in
      record {
        fine = with_new xs ys new clean own (λ e fine. record { own = fine.own; told = λ s this. none.1 s ∙ fine.told s this });
        once = λ s. times_with xs ys new clean own s ∙ ap (λ (b : Bool). one_if b + one_if (is_some (noted s))) (none.0 s)
            ∙ omega arith ∙ ap (λ (o : Option Key). one_if (is_some o)) (sym (none.1 s));
        order = λ iface index before k first second. clean.order iface index before k (sym (none.1 _) ∙ first) (sym (none.1 _) ∙ second);
      }
  clean_by xs ys new clean takes at (inr one) =
      let sight = one.0 in
      let placed = one.2 in
      let own : IsFine taken now new = record { own = takes.own; told = new_fine sight (key_of new.event) placed new one.1 at } in
      record {
        fine = with_new xs ys new clean own (fine_still sight (key_of new.event) placed);
        once = λ s. times_with xs ys new clean own s ∙ ap (λ (b : Bool). one_if b + one_if (is_some (noted s))) (one.1 s)
            ∙ once_by sight (key_of new.event) placed s (same_sight sight s) refl;
        order = λ iface index before k first second. order_by sight (key_of new.event) placed (xs ++ ys) clean iface index before k _ _ refl refl
            (sym (placed.set _) ∙ first) (sym (placed.set _) ∙ second);
      }

  pub clean_more : (xs ys : List Entry) (new : Entry) → IsClean taken noted (xs ++ ys) → Takes taken noted new.pair new.last new.event now → new.at.key ≡ key_of new.event
      → IsClean taken now (xs ++ new ∷ ys)
  clean_more xs ys new clean takes at = clean_by xs ys new clean takes at (none_or_one noted now new.event takes.placed)

  -- the same noted otherwise
  pub clean_same : (entries : List Entry) → ((s : SightId) → now s ≡ noted s) → IsClean taken noted entries → IsClean taken now entries
  clean_same entries same clean = record {
    fine = All-weaker (IsFine taken noted) (IsFine taken now) (λ e fine. record { own = fine.own; told = λ s this. same s ∙ fine.told s this }) entries clean.fine;
    once = λ s. clean.once s ∙ ap (λ (o : Option Key). one_if (is_some o)) (sym (same s));
    order = λ iface index before at first second. clean.order iface index before at (sym (same _) ∙ first) (sym (same _) ∙ second);
  }
