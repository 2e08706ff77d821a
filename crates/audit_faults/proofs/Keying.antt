-- Places of sightings by keys.
use Rattle.std.proofs.Common.{◌≡◌, ◌<◌, ◌≤◌, ◌+◌, ◌-◌, inl, inr, ℕ, Some, List, length, refl, sym, ◌∙◌, ap, subst, arith}
use Rattle.std.specs.Prelude.{slice_index_or, Contains}
use Rattle.std.specs.List.Sorted.{IsNonDecreasingBy, IsPermutation}
use Rattle.std.proofs.lemmas.Bool.{cases_lt}
use Rattle.std.proofs.lemmas.List.Sorted.{Contains-permutation}
use Rattle.std.proofs.lemmas.Option.{same_Some, slice_get-get_or}
use Rattle.audit_model.specs.declared.sighting.SightId.{SightId}
use Rattle.audit_model.specs.declared.sighting.Sighting.{Sighting}
use Rattle.audit_sightings.specs.Intake.{Taken, interface_at, sighting_at}
use Rattle.audit_faults.specs.declared.keyed.Keyed.{Keyed}
use Rattle.audit_faults.specs.Grants.{IsCaptured}
use Rattle.audit_faults.specs.Keyed.{number_at, number_of, placed_as, HasKeyed, IsKeyed, IsNarrow, Stands, AreKeyedBefore}
use Rattle.audit_faults.proofs.Listing.{past, within, all_before}

-- ---- the list

module _ (taken : Taken) (Has : ℕ → Sighting → Type 0) where
  pub more_keyed : (bound : SightId) (s : Sighting) (old new : List Keyed) (width widest : ℕ) → AreKeyedBefore taken Has bound old width → sighting_at taken bound ≡ Some s →
      ((key : ℕ) → Has key s → Contains new (placed_as key bound s)) → ((one : Keyed) → Contains old one → Contains new one) → width ≤ widest → IsNarrow widest s →
      AreKeyedBefore taken Has (record { iface = bound.iface; index = bound.index + 1 }) new widest
  more_keyed bound s old new width widest so_far there here kept wider narrow key sight t before at has = elim (past bound sight before) [
    | inl h ↦ let stands = so_far key sight t h at has in let fits = stands.1.0 in (kept (placed_as key sight t) stands.0, (omega (arith, fits, wider), stands.1.1))
    | inr e ↦
        let same : t ≡ s = same_Some t s (sym at ∙ ap (sighting_at taken) e ∙ there) in
        subst (λ (it : Sighting). Stands taken Has new widest key sight it) (sym same)
        (subst (λ (id : SightId). Contains new (placed_as key id s)) (sym e) (here key (subst (Has key) same has)), narrow)
  ]

  pub row_keyed : (iface index : ℕ) (keyed : List Keyed) (width : ℕ) → length (interface_at taken iface) ≤ index → AreKeyedBefore taken Has (record { iface = iface; index = index }) keyed width →
      AreKeyedBefore taken Has (record { iface = iface + 1; index = 0 }) keyed width
  row_keyed iface index keyed width far so_far key sight s before at has = so_far key sight s (within taken iface index sight s far before at) at has

  pub all_keyed : (keyed sorted : List Keyed) (width : ℕ) → AreKeyedBefore taken Has (record { iface = length taken.interfaces; index = 0 }) keyed width → IsPermutation keyed sorted →
      IsNonDecreasingBy number_of sorted → IsKeyed taken Has sorted width
  all_keyed keyed sorted width so_far permuted rising = record {
    sorted = rising;
    all = λ key sight s at has.
        let stands = so_far key sight s (all_before taken (length taken.interfaces) sight s (omega arith) at) at has in
        (Contains-permutation keyed sorted (placed_as key sight s) permuted stands.0, stands.1);
  }

-- ---- its places

pub has_keyed : (keyed : List Keyed) (key low high first past : ℕ) → IsNonDecreasingBy number_of keyed →
    first ≤ length keyed → ((one : Keyed) → 0 < first → number_of (slice_index_or keyed (first - 1) one) < number_at key low) →
    ((one : Keyed) → past < length keyed → number_at key high < number_of (slice_index_or keyed past one)) → HasKeyed keyed key low high first past
has_keyed keyed key low high first past rising bound below above k one inside is e from to =
    let number : number_of (slice_index_or keyed k one) ≡ number_at key one.moment = ap number_of is ∙ ap (λ (n : ℕ). number_at n one.moment) e in (
      elim (cases_lt k first) [
        | inr ge ↦ ge
        | inl lt ↦ absurd (let up = rising k (first - 1) one (omega (arith, lt)) (omega (arith, lt, bound)) in let under = below one (omega (arith, lt)) in omega (arith, up, under, number, from))
      ],
      elim (cases_lt k past) [
        | inl lt ↦ lt
        | inr ge ↦ absurd (let up = rising past k one ge inside in let over = above one (omega (arith, ge, inside)) in omega (arith, up, over, number, to))
      ],
    )

module _ (taken : Taken) (P : Sighting → Type 0) (key low high : ℕ) (keyed : List Keyed) where
  -- none of the places of the key and the moments from one on has a sighting with the fact
  abbrev pub NoneFrom : ℕ → Type 0
  NoneFrom n =
      (k : ℕ) → n ≤ k → (one : Keyed) → k < length keyed → slice_index_or keyed k one ≡ one → one.key ≡ key → low ≤ one.moment → one.moment ≤ high →
      (s : Sighting) → sighting_at taken one.sight ≡ Some s → P s → ⊥

  pub none_at_end : (first past : ℕ) → HasKeyed keyed key low high first past → NoneFrom past
  none_at_end first past has k far one inside is e from to s at p = let h = has k one inside is e from to in omega (arith, far, h.1)

  pub none_down : (n : ℕ) (d : Keyed) → 0 < n → n ≤ length keyed → NoneFrom n → ((s : Sighting) → sighting_at taken (slice_index_or keyed (n - 1) d).sight ≡ Some s → P s → ⊥) → NoneFrom (n - 1)
  none_down n d some bound none not_here k far one inside is e from to s there p = elim (cases_lt k n) [
    | inr ge ↦ none k ge one inside is e from to s there p
    | inl lt ↦
        let k-is : k ≡ n - 1 = omega (arith, lt, far) in
        let within' : n - 1 < length keyed = omega (arith, some, bound) in
        let is' : slice_index_or keyed (n - 1) one ≡ one = subst (λ (i : ℕ). slice_index_or keyed i one ≡ one) k-is is in
        let same : slice_index_or keyed (n - 1) d ≡ one =
        same_Some (slice_index_or keyed (n - 1) d) (slice_index_or keyed (n - 1) one) (sym (slice_get-get_or keyed (n - 1) d within') ∙ slice_get-get_or keyed (n - 1) one within') ∙ is' in
        not_here s (subst (λ (it : Keyed). sighting_at taken it.sight ≡ Some s) (sym same) there) p
  ]

  pub none_of_key : (Has : ℕ → Sighting → Type 0) (width first past n : ℕ) → HasKeyed keyed key low high first past → n ≤ first → NoneFrom n → IsKeyed taken Has keyed width →
      (s : Sighting) → IsCaptured taken s → Has key s → (IsNarrow width s → (low ≤ s.lo) × (s.lo ≤ high)) → P s → ⊥
  none_of_key Has width first past n has near none listing s (sight, there) may fits p =
      let stands = listing.all key sight s there may in
      let moments = fits stands.1 in
      let one : Keyed = placed_as key sight s in
      let h = has stands.0.0 one stands.0.1 stands.0.2 refl moments.0 moments.1 in
      none stands.0.0 (omega (arith, near, h.0)) one stands.0.1 stands.0.2 refl moments.0 moments.1 s there p

  -- none of those before one has
  abbrev pub NoneTo : ℕ → Type 0
  NoneTo n =
      (k : ℕ) → k < n → (one : Keyed) → k < length keyed → slice_index_or keyed k one ≡ one → one.key ≡ key → low ≤ one.moment → one.moment ≤ high →
      (s : Sighting) → sighting_at taken one.sight ≡ Some s → P s → ⊥

  pub none_ahead : (first past : ℕ) → HasKeyed keyed key low high first past → NoneTo first
  none_ahead first past has k near one inside is e from to s at p = let h = has k one inside is e from to in omega (arith, near, h.0)

  pub none_up : (n : ℕ) (d : Keyed) → n < length keyed → NoneTo n → ((s : Sighting) → sighting_at taken (slice_index_or keyed n d).sight ≡ Some s → P s → ⊥) → NoneTo (n + 1)
  none_up n d within' none not_here k near one inside is e from to s there p = elim (cases_lt k n) [
    | inl lt ↦ none k lt one inside is e from to s there p
    | inr ge ↦
        let k-is : k ≡ n = omega (arith, near, ge) in
        let is' : slice_index_or keyed n one ≡ one = subst (λ (i : ℕ). slice_index_or keyed i one ≡ one) k-is is in
        let same : slice_index_or keyed n d ≡ one = same_Some (slice_index_or keyed n d) (slice_index_or keyed n one) (sym (slice_get-get_or keyed n d within') ∙ slice_get-get_or keyed n one within') ∙ is' in
        not_here s (subst (λ (it : Keyed). sighting_at taken it.sight ≡ Some s) (sym same) there) p
  ]

  pub none_of_key_up : (Has : ℕ → Sighting → Type 0) (width first past n : ℕ) → HasKeyed keyed key low high first past → past ≤ n → NoneTo n → IsKeyed taken Has keyed width →
      (s : Sighting) → IsCaptured taken s → Has key s → (IsNarrow width s → (low ≤ s.lo) × (s.lo ≤ high)) → P s → ⊥
  none_of_key_up Has width first past n has far none listing s (sight, there) may fits p =
      let stands = listing.all key sight s there may in
      let moments = fits stands.1 in
      let one : Keyed = placed_as key sight s in
      let h = has stands.0.0 one stands.0.1 stands.0.2 refl moments.0 moments.1 in
      none stands.0.0 (omega (arith, far, h.1)) one stands.0.1 stands.0.2 refl moments.0 moments.1 s there p
