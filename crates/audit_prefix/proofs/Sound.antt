-- What a certificate shows that breaks no rule of what it places, whatever isn't placed yet.
use Rattle.std.proofs.Common.{◌≡◌, ◌≤◌, ◌+◌, inl, inr, ℕ, true, false, Option, Some, None, List, [], ◌∷◌, length, map, refl, sym, subst, arith}
use Rattle.std.specs.List.{AllByRecursion}
use Rattle.std.specs.List.Sorted.{IsStrictlySortedBy}
use Rattle.std.specs.declared.cmp.Ordering.TheVariants.{Less}
use Rattle.std.specs.Ordering.{is_gt}
use Rattle.std.proofs.lemmas.Option.{slice_get_within}
use Rattle.std.proofs.lemmas.Bool.Decides.{nat_tests}
use Rattle.audit_model.specs.declared.certificate.Certificate.{Certificate}
use Rattle.audit_model.specs.declared.event.At.{At}
use Rattle.audit_model.specs.declared.event.Key.{Key}
use Rattle.audit_model.specs.declared.rule.Rule.TheVariants.{InterfaceOrder}
use Rattle.audit_model.specs.declared.sighting.SightId.{SightId}
use Rattle.audit_model.specs.declared.verdict.Breach.{Breach}
use Rattle.audit_model.specs.Breach.{key_cmp}
use Rattle.audit_model.specs.Event.{key_of}
use Rattle.audit_sightings.specs.Intake.{Taken, sighting_at, interface_at}
use Rattle.audit_placement.specs.declared.entry.Entry.{Entry}
use Rattle.audit_placement.specs.Checks.{breach_at}
use Rattle.audit_placement.specs.Clean.{times_placed as times_in}
use Rattle.audit_placement.specs.Entries.{lanes_entries, drop_entries, arrival_of, entries}
use Rattle.audit_placement.specs.FirstPlace.{first_place}
use Rattle.audit_placement.specs.FirstPlace.{places as places_in}
use Rattle.audit_placement.specs.Shows.{ShowsPlaced}
use Rattle.audit_server.specs.Step.{Step}
use Rattle.audit_server.specs.Placed.{at_cmp, Placed, step_of, Rises}
use Rattle.audit_server.specs.Placing.{placed, times_placed}
use Rattle.audit_server.specs.Glued.{sorted}
use Rattle.audit_server.proofs.Orders.{at_asym, all_left, all_right, all_weaker}
use Rattle.audit_server.proofs.Whole.{all_of_splits}
use Rattle.audit_server.proofs.Meeting.{all_two}
use Rattle.audit_server.proofs.Sorting.{all_sorted}
use Rattle.audit_whole.specs.Glued.{placed_of, the_drops, by_lane, all_placed}
use Rattle.audit_whole.specs.CaptureRun.{MayBePlaced}
use Rattle.audit_sightings.specs.Intake.{AreNumbered}
use Rattle.audit_whole.proofs.Listing.{IsProper, proper}
use Rattle.audit_whole.proofs.Placement.{OwnSound, AllFrom, unshown, own_all, once_from, placed_there, has, is_there, in_row, first_at}
use Rattle.audit_whole.proofs.Conditions.{keyed, all_map, same_times, less_of, rises_from, rise_lanes, seen_event, placed_event}
use Rattle.audit_prefix.specs.Prefix.{KeepNeighbours, NeighboursInOrder}

pub record SoundSoFar (taken : Taken) (es : List Entry) : Type 0 where
  pub own : AllByRecursion (OwnSound taken) es
  pub once : (s : SightId) → times_in es s ≤ 1
  pub order : (iface index : ℕ) (before at : At) → first_place es (record { iface = iface; index = index }) ≡ Some before → first_place es (record { iface = iface; index = index + 1 }) ≡ Some at → is_gt (key_cmp at.key before.key) ≡ true

pub sound_so_far : (taken : Taken) (certificate : Certificate) → ((b : Breach) → ¬ ShowsPlaced taken certificate b) → SoundSoFar taken (entries certificate)
sound_so_far taken certificate f =
    let all : AllFrom taken [] (entries certificate) = unshown taken [] (entries certificate) (λ b k. f b (inl k)) in
    let own : AllByRecursion (OwnSound taken) (entries certificate) = own_all taken [] (entries certificate) all in
    record {
      own = own;
      once = once_from taken [] (entries certificate) all (λ s. omega arith);
      order = λ iface index before at h k. elim (is_gt (key_cmp at.key before.key)) as (λ b. is_gt (key_cmp at.key before.key) ≡ b → b ≡ true) [
        | true ↦ λ q. refl
        | false ↦ λ q.
            let next : SightId = record { iface = iface; index = index + 1 } in
            let x = has (sighting_at taken next) (placed_there taken (entries certificate) next own (is_there (first_place (entries certificate) next) at k)) in
            absurd (f (breach_at at InterfaceOrder next) (inr (
              iface,
              record {
                index = index;
                before = before;
                at = at;
                there = slice_get_within (interface_at taken iface) (index + 1) x.0 (in_row taken next x.0 x.1);
                first = h;
                second = k;
                not_greater = q;
                told = refl;
              },
            )))
      ] refl;
    }

-- what places the sighting after another's comes after it
abbrev pub ComesAfter : Placed → Placed → Type 0
ComesAfter d e = (s t : SightId) → placed d.move ≡ Some s → placed e.move ≡ Some t → s.iface ≡ t.iface → s.index ≡ t.index + 1 → at_cmp e.at d.at ≡ Less

key_less : (a b : At) → key_cmp a.key b.key ≡ Less → at_cmp a b ≡ Less
key_less a b h = grind (arith, nat_tests)

pub in_order : (es : List Placed) → Rises es → AllByRecursion (λ (d : Placed). AllByRecursion (ComesAfter d) es) es → NeighboursInOrder (map step_of es)
unfolding IsStrictlySortedBy
in_order [] r k = tt
in_order (e ∷ es) r k = (
  steps es (all_two (λ (d : Placed). at_cmp e.at d.at ≡ Less) (ComesAfter e) (λ (d : Placed). KeepNeighbours e.move d.move)
      (λ d l b s t ps pt i n. at_asym e.at d.at l (b s t ps pt i n)) es r.0 k.0.1),
  in_order es r.1 (all_weaker (λ (d : Placed). AllByRecursion (ComesAfter d) (e ∷ es)) (λ (d : Placed). AllByRecursion (ComesAfter d) es) (λ d h. h.1) es k.1),
) where
  steps : (ds : List Placed) → AllByRecursion (λ (d : Placed). KeepNeighbours e.move d.move) ds → AllByRecursion (λ (d : Step). KeepNeighbours e.move d.move) (map step_of ds)
  steps [] h = tt
  steps (d ∷ ds) h = (h.0, steps ds h.1)

module _ (taken : Taken) (numbered : AreNumbered taken) (certificate : Certificate) (sound : SoundSoFar taken (entries certificate)) where
  abbrev first_of : SightId → Option At
  first_of s = first_place (entries certificate) s

  -- each stands where its sighting is placed first
  firsts : AllByRecursion (λ (x : Placed). (s : SightId) → placed x.move ≡ Some s → first_of s ≡ Some x.at) (all_placed certificate)
  firsts = all_map (λ (x : Placed). (s : SightId) → placed x.move ≡ Some s → first_of s ≡ Some x.at) (entries certificate)
      (all_two (λ (e : Entry). IsProper e.pair e.event) (λ (e : Entry). (s : SightId) → places_in e.event s ≡ true → first_of s ≡ Some e.at) (λ (e : Entry). (s : SightId) → placed (placed_of e).move ≡ Some s → first_of s ≡ Some e.at)
      (λ e p f s h. f s (placed_event e.pair e.event s p h)) (entries certificate) (proper certificate)
      (all_of_splits (λ (e : Entry). (s : SightId) → places_in e.event s ≡ true → first_of s ≡ Some e.at) (entries certificate) (λ p e q h s k.
      subst (λ (xs : List Entry). first_place xs s ≡ Some e.at) h (first_at taken numbered certificate p e q s (subst (λ (xs : List Entry). times_in xs s ≤ 1) (sym h) (sound.once s)) k))))

  comes_after : (s t : SightId) (a b : At) → s.iface ≡ t.iface → s.index ≡ t.index + 1 → first_of s ≡ Some a → first_of t ≡ Some b → at_cmp b a ≡ Less
  comes_after s t a b i n h k =
      let h' : first_of (record { iface = t.iface; index = t.index + 1 }) ≡ Some a = subst (λ (m : ℕ). first_of (record { iface = t.iface; index = m }) ≡ Some a) n (subst (λ (m : ℕ). first_of (record { iface = m; index = s.index }) ≡ Some a) i h) in
      key_less b a (less_of b.key a.key (sound.order t.iface t.index b a k h'))

  all_come_after : AllByRecursion (λ (d : Placed). AllByRecursion (ComesAfter d) (all_placed certificate)) (all_placed certificate)
  all_come_after = all_weaker (λ (d : Placed). (s : SightId) → placed d.move ≡ Some s → first_of s ≡ Some d.at) (λ (d : Placed). AllByRecursion (ComesAfter d) (all_placed certificate))
      (λ d f. all_weaker (λ (x : Placed). (s : SightId) → placed x.move ≡ Some s → first_of s ≡ Some x.at) (ComesAfter d) (λ x g s t ps pt i n. comes_after s t d.at x.at i n (f s ps) (g t pt)) (all_placed certificate) firsts)
      (all_placed certificate) firsts

  pub order_sorted : Rises (sorted (all_placed certificate)) → NeighboursInOrder (map step_of (sorted (all_placed certificate)))
  order_sorted r = in_order (sorted (all_placed certificate)) r
      (all_sorted (λ (d : Placed). AllByRecursion (ComesAfter d) (sorted (all_placed certificate))) (all_placed certificate)
      (all_weaker (λ (d : Placed). AllByRecursion (ComesAfter d) (all_placed certificate)) (λ (d : Placed). AllByRecursion (ComesAfter d) (sorted (all_placed certificate))) (λ d h. all_sorted (ComesAfter d) (all_placed certificate) h) (all_placed certificate) all_come_after))

  pub seen_so_far : AllByRecursion (λ (x : Placed). MayBePlaced taken x.at.key.moment x.move) (all_placed certificate)
  seen_so_far = all_map (λ (x : Placed). MayBePlaced taken x.at.key.moment x.move) (entries certificate)
      (all_two (λ (e : Entry). IsProper e.pair e.event × OwnSound taken e) (λ (e : Entry). e.at.key ≡ key_of e.event) (λ (e : Entry). MayBePlaced taken e.at.key.moment (placed_of e).move)
      (λ e p k. subst (λ (x : Key). MayBePlaced taken x.moment (placed_of e).move) (sym k) (seen_event taken e.pair e.last e.event p.0 p.1)) (entries certificate)
      (all_two (λ (e : Entry). IsProper e.pair e.event) (OwnSound taken) (λ (e : Entry). IsProper e.pair e.event × OwnSound taken e) (λ e p o. (p, o)) (entries certificate) (proper certificate) sound.own)
      (keyed certificate))

  pub rise_so_far : AllByRecursion Rises (by_lane certificate)
  rise_so_far = rise_lanes taken 0 certificate.lanes (the_drops certificate)
      (all_left (OwnSound taken) (lanes_entries 0 certificate.lanes) (drop_entries (length certificate.lanes) certificate.drops) sound.own)
      (rises_from taken None (length certificate.lanes) 0 None (map arrival_of certificate.drops) (all_right (OwnSound taken) (lanes_entries 0 certificate.lanes) (drop_entries (length certificate.lanes) certificate.drops) sound.own))

  pub once_so_far : (s : SightId) → times_placed s (map step_of (all_placed certificate)) ≤ 1
  once_so_far s = subst (λ (n : ℕ). n ≤ 1) (sym (same_times (entries certificate) s (proper certificate))) (sound.once s)
