-- No rule of placement is broken where each entry is sound by itself, nothing is placed twice, neighbours are in order, and all is placed.
use Rattle.std.proofs.Common.{◌≡◌, ◌≤◌, ◌<◌, ◌+◌, inl, inr, ℕ, Bool, true, false, not, cond, Option, Some, None, List, [], ◌∷◌, ◌++◌, All, length, refl, sym, ◌∙◌, ap, subst, arith, append_assoc}
use Rattle.std.specs.Prelude.{is_some, option_map, option_and_then, slice_get, Contains}
use Rattle.std.specs.List.{AllByRecursion}
use Rattle.std.specs.Ordering.{is_gt}
use Rattle.std.proofs.lemmas.Bool.{true≢false, cases_lt}
use Rattle.std.proofs.lemmas.List.Elements.{All-nil, All-cons}
use Rattle.std.proofs.lemmas.List.{get_or_past}
use Rattle.std.proofs.lemmas.Option.{none-some, same_Some, slice_get-get_or, slice_get_within, get_or_from_slice_get}
use Rattle.audit_model.specs.declared.certificate.Certificate.{Certificate}
use Rattle.audit_model.specs.declared.event.At.{At}
use Rattle.audit_model.specs.declared.event.Event.{Event}
use Rattle.audit_model.specs.declared.event.Event.TheVariants.{In, Act, Out}
use Rattle.audit_model.specs.declared.event.Key.{Key}
use Rattle.audit_model.specs.declared.rule.Rule.TheVariants.{Unplaced, InterfaceOrder}
use Rattle.audit_model.specs.declared.sighting.SightId.{SightId}
use Rattle.audit_model.specs.declared.sighting.Sighting.{Sighting}
use Rattle.audit_model.specs.declared.verdict.Breach.{Breach}
use Rattle.audit_model.specs.Breach.{key_cmp}
use Rattle.audit_sightings.specs.Intake.{Taken, sighting_at, interface_at, AreNumbered}
use Rattle.audit_sightings.specs.ByInterface.{of_interface}
use Rattle.audit_placement.specs.declared.entry.Entry.{Entry}
use Rattle.audit_model.specs.declared.pair.Pair.{Pair}
use Rattle.audit_placement.specs.Checks.{Check, IsOneOf, event_checks, checks, first_broken, breach_at}
use Rattle.audit_placement.specs.Clean.{IsFine, IsClean, times_placed, one_if}
use Rattle.audit_placement.specs.Entries.{entries}
use Rattle.audit_placement.specs.FirstPlace.{places, first_place, is_placed}
use Rattle.audit_placement.specs.Cuts.{ShowsCut}
use Rattle.audit_placement.specs.Shows.{Shows, ShowsFrom}
use Rattle.audit_placement.proofs.CleanSteps.{clean_shows_nothing, times_cons, times_append}
use Rattle.audit_placement.proofs.FirstPush.{same_is}

-- none of the rules is broken
abbrev pub AllUnbroken : List Check → Type 0
AllUnbroken [] = Unit {0}
AllUnbroken (check ∷ checks) = (check.broken ≡ false) × AllUnbroken checks

abbrev pub OwnSound : Taken → Entry → Type 0
OwnSound taken e = AllUnbroken (event_checks taken false e.pair e.last e.event)

pub record Sound (taken : Taken) (es : List Entry) : Type 0 where
  pub own : AllByRecursion (OwnSound taken) es
  pub once : (s : SightId) → times_placed es s ≤ 1
  pub order : (iface index : ℕ) (before at : At) → first_place es (record { iface = iface; index = index }) ≡ Some before → first_place es (record { iface = iface; index = index + 1 }) ≡ Some at → is_gt (key_cmp at.key before.key) ≡ true
  pub all : (s : SightId) → is_some (sighting_at taken s) ≡ true → is_some (first_place es s) ≡ true

unbroken : (cs : List Check) (at : At) → ((b : Breach) → ¬ IsOneOf cs at b) → AllUnbroken cs
unbroken [] at f = tt
unbroken (c ∷ cs) at f = (
  elim c.broken as (λ b. c.broken ≡ b → b ≡ false) [ true ↦ λ q. absurd (f (breach_at at c.rule c.sight) (inl (q, refl))) | false ↦ λ q. refl ] refl,
  unbroken cs at (λ b k. f b (inr k)),
)

pub none_broken : (cs : List Check) → AllUnbroken cs → first_broken cs ≡ None
none_broken [] h = refl
none_broken (c ∷ cs) h = ap (λ b. cond b (Some (c.rule, c.sight)) (first_broken cs)) h.0 ∙ none_broken cs h.1

abbrev pub AllFrom : Taken → List Entry → List Entry → Type 0
AllFrom taken earlier [] = Unit {0}
AllFrom taken earlier (e ∷ es) = AllUnbroken (checks taken earlier e) × AllFrom taken (earlier ++ e ∷ []) es

pub unshown : (taken : Taken) (earlier es : List Entry) → ((b : Breach) → ¬ ShowsFrom taken earlier es b) → AllFrom taken earlier es
unshown taken earlier [] f = tt
unshown taken earlier (e ∷ es) f = (unbroken (checks taken earlier e) e.at (λ b k. f b (inl k)), unshown taken (earlier ++ e ∷ []) es (λ b k. f b (inr k)))

own_of : (taken : Taken) (placed : Bool) (pair : Option Pair) (last : Option Key) (event : Event) → AllUnbroken (event_checks taken placed pair last event) → AllUnbroken (event_checks taken false pair last event)
own_of taken placed pair last (In sight key) h = (refl, h.1)
own_of taken placed pair last (Act arrival departure key) h = h
own_of taken placed pair last (Out sight key) h = (refl, h.1)

pub own_all : (taken : Taken) (earlier es : List Entry) → AllFrom taken earlier es → AllByRecursion (OwnSound taken) es
own_all taken earlier [] h = tt
own_all taken earlier (e ∷ es) h = (own_of taken (is_placed earlier e.event) e.pair e.last e.event h.0, own_all taken (earlier ++ e ∷ []) es h.1)

-- ---- how often a sighting is placed

none_by : (e : Entry) (es : List Entry) (s : SightId) (here : Bool) → places e.event s ≡ here → (is_some (first_place es s) ≡ false → times_placed es s ≡ 0)
    → is_some (cond here (Some e.at) (first_place es s)) ≡ false → one_if here + times_placed es s ≡ 0
none_by e es s true is rest h = absurd (true≢false h)
none_by e es s false is rest h = omega (arith, rest h)

pub none_placed : (es : List Entry) (s : SightId) → is_some (first_place es s) ≡ false → times_placed es s ≡ 0
none_placed [] s h = refl
none_placed (e ∷ es) s h = times_cons e es s ∙ none_by e es s (places e.event s) refl (none_placed es s) h

some_by : (e : Entry) (es : List Entry) (s : SightId) (here : Bool) → places e.event s ≡ here → (is_some (first_place es s) ≡ true → 0 < times_placed es s)
    → is_some (cond here (Some e.at) (first_place es s)) ≡ true → 0 < one_if here + times_placed es s
some_by e es s true is rest h = omega arith
some_by e es s false is rest h = omega (arith, rest h)

pub some_placed : (es : List Entry) (s : SightId) → is_some (first_place es s) ≡ true → 0 < times_placed es s
some_placed [] s h = absurd (true≢false (sym h))
some_placed (e ∷ es) s h = omega (arith, times_cons e es s, some_by e es s (places e.event s) refl (some_placed es s) h)

new_by : (taken : Taken) (earlier : List Entry) (e : Entry) (s : SightId) (event : Event) → AllUnbroken (event_checks taken (is_placed earlier event) e.pair e.last event) → places event s ≡ true → is_some (first_place earlier s) ≡ false
new_by taken earlier e s (In sight key) h p = ap (λ x. is_some (first_place earlier x)) (sym (same_is sight s p)) ∙ h.0
new_by taken earlier e s (Act arrival departure key) h p = absurd (true≢false (sym p))
new_by taken earlier e s (Out sight key) h p = ap (λ x. is_some (first_place earlier x)) (sym (same_is sight s p)) ∙ h.0

times_push : (taken : Taken) (earlier : List Entry) (e : Entry) (s : SightId) (here : Bool) → places e.event s ≡ here → AllUnbroken (checks taken earlier e) → times_placed earlier s ≤ 1 → times_placed earlier s + one_if here ≤ 1
times_push taken earlier e s true is h once = omega (arith, none_placed earlier s (new_by taken earlier e s e.event h is))
times_push taken earlier e s false is h once = omega (arith, once)

pub once_from : (taken : Taken) (earlier es : List Entry) → AllFrom taken earlier es → ((s : SightId) → times_placed earlier s ≤ 1) → (s : SightId) → times_placed (earlier ++ es) s ≤ 1
once_from taken earlier [] h once s = subst (λ (n : ℕ). n ≤ 1) (sym (times_append earlier [] s)) (omega (arith, once s))
once_from taken earlier (e ∷ es) h once s =
    subst (λ (all : List Entry). times_placed all s ≤ 1) (append_assoc earlier (e ∷ []) es)
    (once_from taken (earlier ++ e ∷ []) es h.1 (λ x. subst (λ (n : ℕ). n ≤ 1) (sym (times_append earlier (e ∷ []) x)) (omega (arith, times_cons e [] x, times_push taken earlier e x (places e.event x) refl h.0 (once x)))) s)

-- ---- what is placed is there

there_by : (taken : Taken) (e : Entry) (s : SightId) (event : Event) → AllUnbroken (event_checks taken false e.pair e.last event) → places event s ≡ true → is_some (sighting_at taken s) ≡ true
there_by taken e s (In sight key) h p = ap (λ x. is_some (sighting_at taken x)) (sym (same_is sight s p)) ∙ not_not (is_some (sighting_at taken sight)) h.1.0 where
  not_not : (b : Bool) → not b ≡ false → b ≡ true
  not_not true k = refl
  not_not false k = absurd (true≢false k)
there_by taken e s (Act arrival departure key) h p = absurd (true≢false (sym p))
there_by taken e s (Out sight key) h p = ap (λ x. is_some (sighting_at taken x)) (sym (same_is sight s p)) ∙ not_not (is_some (sighting_at taken sight)) h.1.0 where
  not_not : (b : Bool) → not b ≡ false → b ≡ true
  not_not true k = refl
  not_not false k = absurd (true≢false k)

there_cases : (taken : Taken) (e : Entry) (es : List Entry) (s : SightId) (here : Bool) → places e.event s ≡ here → OwnSound taken e → (is_some (first_place es s) ≡ true → is_some (sighting_at taken s) ≡ true)
    → is_some (cond here (Some e.at) (first_place es s)) ≡ true → is_some (sighting_at taken s) ≡ true
there_cases taken e es s true is own rest h = there_by taken e s e.event own is
there_cases taken e es s false is own rest h = rest h

pub placed_there : (taken : Taken) (es : List Entry) (s : SightId) → AllByRecursion (OwnSound taken) es → is_some (first_place es s) ≡ true → is_some (sighting_at taken s) ≡ true
placed_there taken [] s own h = absurd (true≢false (sym h))
placed_there taken (e ∷ es) s own h = there_cases taken e es s (places e.event s) refl own.0 (placed_there taken es s own.1) h

pub has : {A : Type 0} (o : Option A) → is_some o ≡ true → (x : A) × (o ≡ Some x)
has (Some x) h = (x, refl)
has None h = absurd (true≢false (sym h))

pub is_there : {A : Type 0} (o : Option A) (x : A) → o ≡ Some x → is_some o ≡ true
is_there o x h = ap is_some h

row_of : (rows : List (List Sighting)) (iface index : ℕ) (row : Option (List Sighting)) (x : Sighting) → slice_get rows iface ≡ row → option_and_then (λ (r : List Sighting). slice_get r index) row ≡ Some x → slice_get (of_interface rows iface) index ≡ Some x
row_of rows iface index None x e h = absurd (none-some x h)
row_of rows iface index (Some row) x e h = ap (λ r. slice_get r index) (get_or_from_slice_get rows iface row [] e) ∙ h

pub in_row : (taken : Taken) (s : SightId) (x : Sighting) → sighting_at taken s ≡ Some x → slice_get (interface_at taken s.iface) s.index ≡ Some x
in_row taken s x h = row_of taken.interfaces s.iface s.index (slice_get taken.interfaces s.iface) x refl h

pub of_row : (taken : Taken) (iface index : ℕ) (x : Sighting) → slice_get (interface_at taken iface) index ≡ Some x → sighting_at taken (record { iface = iface; index = index }) ≡ Some x
of_row taken iface index x h = elim (cases_lt iface (length taken.interfaces)) [
  | inl within ↦ ap (option_and_then (λ (r : List Sighting). slice_get r index)) (slice_get-get_or taken.interfaces iface [] within) ∙ h
  | inr past ↦ absurd (let i : index < length (interface_at taken iface) = slice_get_within (interface_at taken iface) index x h in let e : interface_at taken iface ≡ [] = get_or_past taken.interfaces iface [] past in omega (arith, i, ap length e))
]

contains_at : (row : List Sighting) (index : ℕ) (x : Sighting) → slice_get row index ≡ Some x → Contains row x
contains_at row index x h = (index, slice_get_within row index x h, get_or_from_slice_get row index x x h)

contained_at : (row : List Sighting) (x : Sighting) → Contains row x → (index : ℕ) × (slice_get row index ≡ Some x)
contained_at row x c = (c.0, slice_get-get_or row c.0 x c.1 ∙ ap Some c.2)

-- ---- both ways

module _ (taken : Taken) (numbered : AreNumbered taken) (certificate : Certificate) where
  pub sound_of : ((b : Breach) → ¬ Shows taken certificate b) → Sound taken (entries certificate)
  sound_of f =
      let all : AllFrom taken [] (entries certificate) = unshown taken [] (entries certificate) (λ b k. f b (inl (inl (inl k)))) in
      let own : AllByRecursion (OwnSound taken) (entries certificate) = own_all taken [] (entries certificate) all in
      record {
        own = own;
        once = once_from taken [] (entries certificate) all (λ s. omega arith);
        order = λ iface index before at h k. elim (is_gt (key_cmp at.key before.key)) as (λ b. is_gt (key_cmp at.key before.key) ≡ b → b ≡ true) [
          | true ↦ λ q. refl
          | false ↦ λ q.
              let next : SightId = record { iface = iface; index = index + 1 } in
              let x = has (sighting_at taken next) (placed_there taken (entries certificate) next own (is_there (first_place (entries certificate) next) at k)) in
              absurd (f (breach_at at InterfaceOrder next) (inl (inl (inr (
                iface,
                record {
                  index = index;
                  before = before;
                  at = at;
                  there = slice_get_within (interface_at taken iface) (index + 1) x.0 (in_row taken next x.0 x.1);
                  first = h;
                  second = k;
                  not_greater = q;
                  told = refl;
                },
              )))))
        ] refl;
        all = λ s h. elim (is_some (first_place (entries certificate) s)) as (λ b. is_some (first_place (entries certificate) s) ≡ b → b ≡ true) [
          | true ↦ λ q. refl
          | false ↦ λ q.
              let x = has (sighting_at taken s) h in
              let id : x.0.id ≡ s = numbered s.iface s.index x.0 (in_row taken s x.0 x.1) in
              absurd (f (breach_at (record { key = record { moment = x.0.stamp; tie = 0 }; lane = length certificate.lanes; place = length certificate.drops }) Unplaced x.0.id) (inl (inr (
                s.iface,
                record {
                  sighting = x.0;
                  there = contains_at (interface_at taken s.iface) s.index x.0 (in_row taken s x.0 x.1);
                  nowhere = ap (first_place (entries certificate)) id ∙ no (first_place (entries certificate) s) q;
                  told = refl;
                },
              ))))
        ] refl;
      } where
        no : {A : Type 0} (o : Option A) → is_some o ≡ false → o ≡ None
        no None h = refl
        no (Some x) h = absurd (true≢false h)

  abbrev noted : SightId → Option Key
  noted s = option_map (λ (at : At). at.key) (first_place (entries certificate) s)

  pub first_at : (p : List Entry) (e : Entry) (q : List Entry) (s : SightId) → times_placed (p ++ e ∷ q) s ≤ 1 → places e.event s ≡ true → first_place (p ++ e ∷ q) s ≡ Some e.at
  first_at [] e q s n h = ap (λ b. cond b (Some e.at) (first_place q s)) h
  first_at (x ∷ p) e q s n h = by_case (places x.event s) refl (λ k. first_at p e q s k h) where
    by_case : (here : Bool) → places x.event s ≡ here → (times_placed (p ++ e ∷ q) s ≤ 1 → first_place (p ++ e ∷ q) s ≡ Some e.at) → cond here (Some x.at) (first_place (p ++ e ∷ q) s) ≡ Some e.at
    by_case true is rest = absurd (omega (arith, n, times_cons x (p ++ e ∷ q) s, ap one_if is, times_append p (e ∷ q) s, times_cons e q s, ap one_if h))
    by_case false is rest = rest (omega (arith, n, times_cons x (p ++ e ∷ q) s))

  all_fine : (p es : List Entry) → p ++ es ≡ entries certificate → Sound taken (entries certificate) → AllByRecursion (OwnSound taken) es → All (IsFine taken noted) es
  all_fine p [] h sound own = All-nil (IsFine taken noted)
  all_fine p (e ∷ es) h sound own = All-cons (IsFine taken noted) e es
      (record {
        own = none_broken (event_checks taken false e.pair e.last e.event) own.0;
        told = λ s k. ap (option_map (λ (at : At). at.key)) (ap (λ xs. first_place xs s) (sym h) ∙ first_at p e es s (subst (λ (xs : List Entry). times_placed xs s ≤ 1) (sym h) (sound.once s)) k);
      })
      (all_fine (p ++ e ∷ []) es (append_assoc p (e ∷ []) es ∙ h) sound own.1)

  times_are : Sound taken (entries certificate) → (s : SightId) (b : Bool) → is_some (first_place (entries certificate) s) ≡ b → times_placed (entries certificate) s ≡ one_if b
  times_are sound s true h = omega (arith, sound.once s, some_placed (entries certificate) s h)
  times_are sound s false h = none_placed (entries certificate) s h

  noted_some : (s : SightId) (o : Option At) → first_place (entries certificate) s ≡ o → is_some (option_map (λ (at : At). at.key) o) ≡ is_some o
  noted_some s None h = refl
  noted_some s (Some at) h = refl

  noted_at : (s : SightId) (o : Option At) (key : Key) → first_place (entries certificate) s ≡ o → option_map (λ (at : At). at.key) o ≡ Some key → (at : At) × (first_place (entries certificate) s ≡ Some at) × (at.key ≡ key)
  noted_at s None key h k = absurd (none-some key k)
  noted_at s (Some at) key h k = (at, h, same_Some at.key key k)

  clean : Sound taken (entries certificate) → IsClean taken noted (entries certificate)
  clean sound = record {
    fine = all_fine [] (entries certificate) refl sound sound.own;
    once = λ s. times_are sound s (is_some (first_place (entries certificate) s)) refl ∙ ap one_if (sym (noted_some s (first_place (entries certificate) s) refl));
    order = λ iface index before at h k.
        let b = noted_at (record { iface = iface; index = index }) (first_place (entries certificate) (record { iface = iface; index = index })) before refl h in
        let a = noted_at (record { iface = iface; index = index + 1 }) (first_place (entries certificate) (record { iface = iface; index = index + 1 })) at refl k in
        ap (λ x. is_gt (key_cmp x before)) (sym a.2) ∙ ap (λ x. is_gt (key_cmp a.0.key x)) (sym b.2) ∙ sound.order iface index b.0 a.0 b.1 a.1;
  }

  pub shows_none : Sound taken (entries certificate) → ((b : Breach) → ¬ ShowsCut taken certificate b) → (b : Breach) → ¬ Shows taken certificate b
  shows_none sound uncut b (inr shown) = uncut b shown
  shows_none sound uncut b (inl (inl shown)) = clean_shows_nothing taken noted certificate (clean sound) b shown
  shows_none sound uncut b (inl (inr (iface, u))) =
      let c = contained_at (interface_at taken iface) u.sighting u.there in
      let id : u.sighting.id ≡ record { iface = iface; index = c.0 } = numbered iface c.0 u.sighting c.1 in
      let there : is_some (sighting_at taken (record { iface = iface; index = c.0 })) ≡ true = is_there (sighting_at taken (record { iface = iface; index = c.0 })) u.sighting (of_row taken iface c.0 u.sighting c.1) in
      true≢false (sym (sound.all (record { iface = iface; index = c.0 }) there) ∙ ap (λ x. is_some (first_place (entries certificate) x)) (sym id) ∙ ap is_some u.nowhere)
