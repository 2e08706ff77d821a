-- Placement is sound exactly where each sighting is placed once, where it was seen, in order along interfaces and in lanes.
use Rattle.std.proofs.Common.{◌≡◌, ◌≤◌, ◌<◌, ◌+◌, ◌-◌, ◌⊎◌, inl, inr, ℕ, zero, suc, Bool, true, false, not, ◌&&◌, ◌||◌, cond, Option, Some, None, List, [], ◌∷◌, ◌++◌, length, map, refl, sym, ◌∙◌, ap, subst, arith}
use Rattle.std.specs.Prelude.{is_some, nat_lt, slice_get, IsSomeAnd}
use Rattle.std.specs.List.{AllByRecursion}
use Rattle.std.specs.List.Sorted.{IsStrictlySortedBy}
use Rattle.std.specs.Cmp.{IsTotalOrder}
use Rattle.std.specs.declared.cmp.Ordering.{Ordering}
use Rattle.std.specs.declared.cmp.Ordering.TheVariants.{Less, Equal, Greater}
use Rattle.std.specs.Ordering.{is_gt, ordering_then, ordering_reverse, nat_cmp}
use Rattle.std.proofs.lemmas.Bool.{true≢false, cond-true}
use Rattle.std.proofs.lemmas.Bool.Decides.{nat_tests}
use Rattle.std.proofs.lemmas.Cmp.{on_total, then_total, nat_cmp_total}
use Rattle.std.proofs.lemmas.Option.{none-some, same_Some, slice_get-get_or, slice_get_within}
use Rattle.audit_model.specs.declared.certificate.Certificate.{Certificate}
use Rattle.audit_model.specs.declared.certificate.CertLane.{CertLane}
use Rattle.audit_model.specs.declared.event.At.{At}
use Rattle.audit_model.specs.declared.event.Event.{Event}
use Rattle.audit_model.specs.declared.event.Event.TheVariants as events
use Rattle.audit_model.specs.declared.event.Key.{Key}
use Rattle.audit_model.specs.declared.policy.Policy.{Policy}
use Rattle.audit_model.specs.declared.sighting.SightId.{SightId}
use Rattle.audit_model.specs.declared.sighting.Side.{Side}
use Rattle.audit_model.specs.declared.sighting.Side.TheVariants.{Arrives, Leaves}
use Rattle.audit_model.specs.declared.sighting.Sighting.{Sighting}
use Rattle.audit_model.specs.Breach.{key_cmp}
use Rattle.audit_model.specs.Event.{key_of}
use Rattle.audit_model.specs.Lanes.{same_pair}
use Rattle.audit_model.specs.Policy.{listens}
use Rattle.audit_sightings.specs.Intake.{Taken, sighting_at, interface_at, AreNumbered}
use Rattle.audit_placement.specs.declared.entry.Entry.{Entry}
use Rattle.audit_model.specs.declared.pair.Pair.{Pair}
use Rattle.audit_placement.specs.Checks.{is_so, is_outside, is_late, differ, goes_against, is_of_another, event_checks}
use Rattle.audit_placement.specs.Clean.{one_if, times_placed as times_in}
use Rattle.audit_placement.specs.Entries.{entry_of, entries_from, lane_entries, lanes_entries, drop_entries, arrival_of, entries}
use Rattle.audit_placement.specs.FirstPlace.{first_place, places as places_in}
use Rattle.audit_placement.proofs.CleanSteps.{times_cons}
use Rattle.audit_server.specs.Step.{Step, Move, In, Act, Out}
use Rattle.audit_server.specs.Placed.{at_cmp, Placed, step_of, Rises}
use Rattle.audit_server.specs.Holding.{AnyOf}
use Rattle.audit_server.specs.Placing.{places, placed, times_placed, KeyFollows, KeysFollow}
use Rattle.audit_model.proofs.Sames.{sight_true}
use Rattle.audit_server.proofs.Orders.{all_append, all_left, all_right, all_weaker}
use Rattle.audit_server.proofs.Whole.{all_of_splits}
use Rattle.audit_server.proofs.Meeting.{all_two}
use Rattle.audit_server.proofs.Sorting.{count_cons}
use Rattle.audit_server.proofs.Along.{placed_places}
use Rattle.audit_whole.specs.Glued.{move_of, placed_of, lanes_from, the_drops, by_lane, all_placed}
use Rattle.audit_whole.specs.CaptureRun.{IsSeen, MayBePlaced}
use Rattle.audit_whole.specs.LaneConditions.{IsAtEnds, AreAtEnds}
use Rattle.audit_whole.proofs.Listing.{IsProper, AreProper, proper}
use Rattle.audit_whole.proofs.Placement.{AllUnbroken, OwnSound, Sound, none_placed, some_placed, placed_there, has, is_there, in_row, of_row, first_at}

-- ---- tests

side_is : (a b : Side) → differ a b ≡ false → a ≡ b
side_is Arrives Arrives h = refl
side_is Arrives Leaves h = absurd (true≢false h)
side_is Leaves Arrives h = absurd (true≢false h)
side_is Leaves Leaves h = refl

side_to : (a b : Side) → a ≡ b → differ a b ≡ false
side_to a b h = subst (λ (c : Side). differ a c ≡ false) h (itself a) where
  itself : (c : Side) → differ c c ≡ false
  itself Arrives = refl
  itself Leaves = refl

inside_of : (m lo hi : ℕ) → (nat_lt m lo || nat_lt hi m) ≡ false → (lo ≤ m) × (m ≤ hi)
inside_of m lo hi h = (grind (arith, nat_tests, h), grind (arith, nat_tests, h))

inside_to : (m lo hi : ℕ) → lo ≤ m → m ≤ hi → (nat_lt m lo || nat_lt hi m) ≡ false
inside_to m lo hi h k = grind (arith, nat_tests, h, k)

pub seen_by : (o : Option Sighting) (side : Side) (key : Key) → not (is_some o) ≡ false → is_so o (is_outside key) ≡ false → is_so o (goes_against side) ≡ false → IsSomeAnd o (λ s. (s.side ≡ side) × (s.lo ≤ key.moment) × (key.moment ≤ s.hi))
seen_by None side key h k l = absurd (true≢false h)
seen_by (Some s) side key h k l = let i = inside_of key.moment s.lo s.hi k in (side_is s.side side l, i.0, i.1)

there_of : (o : Option Sighting) (P : Sighting → Type 0) → IsSomeAnd o P → not (is_some o) ≡ false
there_of None P h = absurd h
there_of (Some s) P h = refl

within_of : (o : Option Sighting) (side : Side) (key : Key) → IsSomeAnd o (λ s. (s.side ≡ side) × (s.lo ≤ key.moment) × (key.moment ≤ s.hi)) → is_so o (is_outside key) ≡ false
within_of None side key h = absurd h
within_of (Some s) side key h = inside_to key.moment s.lo s.hi h.1 h.2

along_of : (o : Option Sighting) (side : Side) → IsSomeAnd o (λ s. s.side ≡ side) → is_so o (goes_against side) ≡ false
along_of None side h = absurd h
along_of (Some s) side h = side_to s.side side h

side_only : (o : Option Sighting) (side : Side) (moment : ℕ) → IsSomeAnd o (λ s. (s.side ≡ side) × (s.lo ≤ moment) × (moment ≤ s.hi)) → IsSomeAnd o (λ s. s.side ≡ side)
side_only None side moment h = h
side_only (Some s) side moment h = h.0

and_not : (a b : Bool) → (a && not b) ≡ false → a ≡ true → b ≡ true
and_not true true h k = refl
and_not true false h k = absurd (true≢false h)
and_not false b h k = absurd (true≢false (sym k))

not_and : (a b : Bool) → (a ≡ true → b ≡ true) → (a && not b) ≡ false
not_and true true f = refl
not_and true false f = absurd (true≢false (sym (f refl)))
not_and false b f = refl

ends_of : (policy : Policy) (pair : Pair) (side : Side) (o : Option Sighting) → is_so o (is_of_another policy (Some pair) side) ≡ false → (s : Sighting) → o ≡ Some s → IsAtEnds policy pair side s
ends_of policy pair side None h s e = absurd (none-some s e)
ends_of policy pair Arrives (Some x) h s e = subst (IsAtEnds policy pair Arrives) (same_Some x s e) (and_not (listens policy x.to) (same_pair pair.client pair.listen x.from x.to) h)
ends_of policy pair Leaves (Some x) h s e = subst (IsAtEnds policy pair Leaves) (same_Some x s e) (and_not (listens policy x.from) (same_pair pair.client pair.listen x.to x.from) h)

ends_to : (policy : Policy) (pair : Pair) (side : Side) (o : Option Sighting) → ((s : Sighting) → o ≡ Some s → IsAtEnds policy pair side s) → is_so o (is_of_another policy (Some pair) side) ≡ false
ends_to policy pair side None f = refl
ends_to policy pair Arrives (Some x) f = not_and (listens policy x.to) (same_pair pair.client pair.listen x.from x.to) (f x refl)
ends_to policy pair Leaves (Some x) f = not_and (listens policy x.from) (same_pair pair.client pair.listen x.to x.from) (f x refl)

no_ends : (policy : Policy) (side : Side) (o : Option Sighting) → is_so o (is_of_another policy None side) ≡ false
no_ends policy side None = refl
no_ends policy side (Some s) = refl

-- ---- one entry

-- an act's arrival was captured arriving, and its departure leaving
abbrev pub ActIsSeen : Taken → Move → Type 0
ActIsSeen taken (In s) = Unit {0}
ActIsSeen taken (Act c s t) = IsSomeAnd (sighting_at taken s) (λ x. x.side ≡ Arrives) × IsSomeAnd (sighting_at taken t) (λ x. x.side ≡ Leaves)
ActIsSeen taken (Out t) = Unit {0}

pub seen_event : (taken : Taken) (pair : Option Pair) (last : Option Key) (event : Event) → IsProper pair event → AllUnbroken (event_checks taken false pair last event) → MayBePlaced taken (key_of event).moment (move_of pair event)
seen_event taken None last (events.In sight key) p h = seen_by (sighting_at taken sight) Arrives key h.1.0 h.1.1.0 h.1.1.1.1.0
seen_event taken None last (events.Act sight gives key) p h = absurd p
seen_event taken None last (events.Out sight key) p h = absurd p
seen_event taken (Some pair) last (events.In sight key) p h = seen_by (sighting_at taken sight) Arrives key h.1.0 h.1.1.0 h.1.1.1.1.0
seen_event taken (Some pair) last (events.Act sight gives key) p h = tt
seen_event taken (Some pair) last (events.Out sight key) p h = seen_by (sighting_at taken sight) Leaves key h.1.0 h.1.1.0 h.1.1.1.1.0

ends_event : (taken : Taken) (pair : Option Pair) (last : Option Key) (event : Event) → AllUnbroken (event_checks taken false pair last event) → AreAtEnds taken pair event
ends_event taken None last event h = tt
ends_event taken (Some pair) last (events.In sight key) h = ends_of taken.policy pair Arrives (sighting_at taken sight) h.1.1.1.1.1.0
ends_event taken (Some pair) last (events.Act sight gives key) h = tt
ends_event taken (Some pair) last (events.Out sight key) h = ends_of taken.policy pair Leaves (sighting_at taken sight) h.1.1.1.1.1.0

late_event : (taken : Taken) (pair : Option Pair) (last : Option Key) (event : Event) → AllUnbroken (event_checks taken false pair last event) → is_late last (key_of event) ≡ false
late_event taken pair last (events.In sight key) h = h.1.1.1.0
late_event taken pair last (events.Act sight gives key) h = h.1.0
late_event taken pair last (events.Out sight key) h = h.1.1.1.0

placing_own : (taken : Taken) (pair : Option Pair) (last : Option Key) (side : Side) (sight : SightId) (key : Key) → IsSeen taken side sight key.moment → is_so (sighting_at taken sight) (is_of_another taken.policy pair side) ≡ false → is_late last key ≡ false →
    (false ≡ false) × (not (is_some (sighting_at taken sight)) ≡ false) × (is_so (sighting_at taken sight) (is_outside key) ≡ false) × (is_late last key ≡ false) × (is_so (sighting_at taken sight) (goes_against side) ≡ false) × (is_so (sighting_at taken sight) (is_of_another taken.policy pair side) ≡ false)
placing_own taken pair last side sight key seen ends late = (
  refl,
  there_of (sighting_at taken sight) (λ s. (s.side ≡ side) × (s.lo ≤ key.moment) × (key.moment ≤ s.hi)) seen,
  within_of (sighting_at taken sight) side key seen,
  late,
  along_of (sighting_at taken sight) side (side_only (sighting_at taken sight) side key.moment seen),
  ends,
)

or_false : (a b : Bool) → a ≡ false → b ≡ false → (a || b) ≡ false
or_false a b h k = ap (λ c. c || b) h ∙ k

own_event : (taken : Taken) (pair : Option Pair) (last : Option Key) (event : Event) → IsProper pair event → MayBePlaced taken (key_of event).moment (move_of pair event) → ActIsSeen taken (move_of pair event) → AreAtEnds taken pair event → is_late last (key_of event) ≡ false →
    AllUnbroken (event_checks taken false pair last event)
own_event taken None last (events.In sight key) p seen acts ends late =
    let k = placing_own taken None last Arrives sight key seen (no_ends taken.policy Arrives (sighting_at taken sight)) late in
    (k.0, (k.1, (k.2, (k.3, (k.4, (k.5, tt))))))
own_event taken None last (events.Act sight gives key) p seen acts ends late = absurd p
own_event taken None last (events.Out sight key) p seen acts ends late = absurd p
own_event taken (Some pair) last (events.In sight key) p seen acts ends late =
    let k = placing_own taken (Some pair) last Arrives sight key seen (ends_to taken.policy pair Arrives (sighting_at taken sight) ends) late in
    (k.0, (k.1, (k.2, (k.3, (k.4, (k.5, tt))))))
own_event taken (Some pair) last (events.Act sight gives key) p seen acts ends late = (
  or_false (not (is_some (sighting_at taken sight))) (not (is_some (sighting_at taken gives))) (there_of (sighting_at taken sight) (λ x. x.side ≡ Arrives) acts.0) (there_of (sighting_at taken gives) (λ x. x.side ≡ Leaves) acts.1),
  (
    late,
    (or_false (is_so (sighting_at taken sight) (goes_against Arrives)) (is_so (sighting_at taken gives) (goes_against Leaves)) (along_of (sighting_at taken sight) Arrives acts.0) (along_of (sighting_at taken gives) Leaves acts.1), tt),
  ),
)
own_event taken (Some pair) last (events.Out sight key) p seen acts ends late =
    let k = placing_own taken (Some pair) last Leaves sight key seen (ends_to taken.policy pair Leaves (sighting_at taken sight) ends) late in
    (k.0, (k.1, (k.2, (k.3, (k.4, (k.5, tt))))))

-- ---- what holds of each entry

each_from : (P : Entry → Type 0) (pair : Pair) (lane place : ℕ) (last : Option Key) (es : List Event) → ((p : Option Pair) (n m : ℕ) (l : Option Key) (e : Event) → P (entry_of p n m l e)) → AllByRecursion P (entries_from (Some pair) lane place last es)
each_from P pair lane place last [] f = tt
each_from P pair lane place last (e ∷ es) f = (f (Some pair) lane place last e, each_from P pair lane (place + 1) (Some (key_of e)) es f)

each_drop : (P : Entry → Type 0) (lane place : ℕ) (last : Option Key) (es : List Event) → ((p : Option Pair) (n m : ℕ) (l : Option Key) (e : Event) → P (entry_of p n m l e)) → AllByRecursion P (entries_from None lane place last es)
each_drop P lane place last [] f = tt
each_drop P lane place last (e ∷ es) f = (f None lane place last e, each_drop P lane (place + 1) (Some (key_of e)) es f)

each_lanes : (P : Entry → Type 0) (n : ℕ) (lanes : List CertLane) → ((p : Option Pair) (n m : ℕ) (l : Option Key) (e : Event) → P (entry_of p n m l e)) → AllByRecursion P (lanes_entries n lanes)
each_lanes P n [] f = tt
each_lanes P n (lane ∷ lanes) f = all_append P (lane_entries n lane) (lanes_entries (n + 1) lanes) (each_from P (record { client = lane.client; listen = lane.listen }) n 0 None lane.events f) (each_lanes P (n + 1) lanes f)

-- each stands at its event's key
pub keyed : (certificate : Certificate) → AllByRecursion (λ (e : Entry). e.at.key ≡ key_of e.event) (entries certificate)
keyed certificate =
    all_append (λ (e : Entry). e.at.key ≡ key_of e.event) (lanes_entries 0 certificate.lanes) (drop_entries (length certificate.lanes) certificate.drops)
    (each_lanes (λ (e : Entry). e.at.key ≡ key_of e.event) 0 certificate.lanes (λ p n m l e. refl))
    (each_drop (λ (e : Entry). e.at.key ≡ key_of e.event) (length certificate.lanes) 0 None (map arrival_of certificate.drops) (λ p n m l e. refl))

pub all_map : (P : Placed → Type 0) (es : List Entry) → AllByRecursion (λ (e : Entry). P (placed_of e)) es → AllByRecursion P (map placed_of es)
all_map P [] h = tt
all_map P (e ∷ es) h = (h.0, all_map P es h.1)

pub all_unmap : (P : Placed → Type 0) (es : List Entry) → AllByRecursion P (map placed_of es) → AllByRecursion (λ (e : Entry). P (placed_of e)) es
all_unmap P [] h = tt
all_unmap P (e ∷ es) h = (h.0, all_unmap P es h.1)

-- ---- how often a sighting is placed

same_places : (pair : Option Pair) (event : Event) (s : SightId) → IsProper pair event → places s (move_of pair event) ≡ places_in event s
same_places None (events.In sight key) s p = refl
same_places None (events.Act sight gives key) s p = absurd p
same_places None (events.Out sight key) s p = absurd p
same_places (Some pair) (events.In sight key) s p = refl
same_places (Some pair) (events.Act sight gives key) s p = refl
same_places (Some pair) (events.Out sight key) s p = refl

one_is : (b : Bool) → cond {A = ℕ} b 1 0 ≡ one_if b
one_is true = refl
one_is false = refl

pub same_times : (es : List Entry) (s : SightId) → AreProper es → times_placed s (map step_of (map placed_of es)) ≡ times_in es s
same_times [] s p = refl
same_times (e ∷ es) s p = omega (arith, count_cons (λ (d : Step). places s d.move) (step_of (placed_of e)) (map step_of (map placed_of es)), times_cons e es s, one_is (places s (move_of e.pair e.event)), ap one_if (same_places e.pair e.event s p.0), same_times es s p.1)

-- ---- keys

pub key_total : IsTotalOrder key_cmp
key_total = then_total (on_total (λ (a : Key). a.moment) nat_cmp_total) (on_total (λ (a : Key). a.tie) nat_cmp_total)

greater_is : (o : Ordering) → is_gt o ≡ true → o ≡ Greater
greater_is Less h = absurd (true≢false (sym h))
greater_is Equal h = absurd (true≢false (sym h))
greater_is Greater h = refl

pub less_of : (a b : Key) → is_gt (key_cmp b a) ≡ true → key_cmp a b ≡ Less
less_of a b h = key_total.antisymm a b ∙ ap ordering_reverse (greater_is (key_cmp b a) h)

pub less_to : (a b : Key) → key_cmp a b ≡ Less → is_gt (key_cmp b a) ≡ true
less_to a b h = ap is_gt (key_total.antisymm b a ∙ ap ordering_reverse h)

not_true : (b : Bool) → not b ≡ false → b ≡ true
not_true true h = refl
not_true false h = absurd (true≢false h)

at_less : (a b : At) → key_cmp a.key b.key ≡ Less → at_cmp a b ≡ Less
at_less a b h = ap (λ o. ordering_then o (nat_cmp a.lane b.lane)) h

same_lane_less : (a b : At) → a.lane ≡ b.lane → at_cmp a b ≡ Less → key_cmp a.key b.key ≡ Less
same_lane_less a b e h = grind (arith, nat_tests, e, h)

abbrev IsUpTo : Key → Key → Type 0
IsUpTo k l = (k ≡ l) ⊎ (key_cmp k l ≡ Less)

up_less : (k l m : Key) → IsUpTo k l → key_cmp l m ≡ Less → key_cmp k m ≡ Less
up_less k l m (inl e) h = subst (λ (x : Key). key_cmp x m ≡ Less) (sym e) h
up_less k l m (inr g) h = key_total.trans k l m g h

above : (taken : Taken) (k : Key) (pair : Option Pair) (lane place : ℕ) (l : Key) (es : List Event) → IsUpTo k l → AllByRecursion (OwnSound taken) (entries_from pair lane place (Some l) es) →
    AllByRecursion (λ (x : Placed). key_cmp k x.at.key ≡ Less) (map placed_of (entries_from pair lane place (Some l) es))
above taken k pair lane place l [] u own = tt
above taken k pair lane place l (e ∷ es) u own =
    let next : key_cmp l (key_of e) ≡ Less = less_of l (key_of e) (not_true (is_gt (key_cmp (key_of e) l)) (late_event taken pair (Some l) e own.0)) in
    let far : key_cmp k (key_of e) ≡ Less = up_less k l (key_of e) u next in
    (far, above taken k pair lane (place + 1) (key_of e) es (inr far) own.1)

pub rises_from : (taken : Taken) (pair : Option Pair) (lane place : ℕ) (last : Option Key) (es : List Event) → AllByRecursion (OwnSound taken) (entries_from pair lane place last es) → Rises (map placed_of (entries_from pair lane place last es))
unfolding IsStrictlySortedBy
rises_from taken pair lane place last [] own = tt
rises_from taken pair lane place last (e ∷ es) own = (
  all_weaker (λ (x : Placed). key_cmp (key_of e) x.at.key ≡ Less) (λ (x : Placed). at_cmp (record { key = key_of e; lane = lane; place = place }) x.at ≡ Less) (λ x h. at_less (record { key = key_of e; lane = lane; place = place }) x.at h)
      (map placed_of (entries_from pair lane (place + 1) (Some (key_of e)) es)) (above taken (key_of e) pair lane (place + 1) (key_of e) es (inl refl) own.1),
  rises_from taken pair lane (place + 1) (Some (key_of e)) es own.1,
)

pub rise_lanes : (taken : Taken) (n : ℕ) (lanes : List CertLane) (last : List Placed) → AllByRecursion (OwnSound taken) (lanes_entries n lanes) → Rises last → AllByRecursion Rises (lanes_from n lanes ++ last ∷ [])
rise_lanes taken n [] last own r = (r, tt)
rise_lanes taken n (lane ∷ lanes) last own r = (
  rises_from taken (Some (record { client = lane.client; listen = lane.listen })) n 0 None lane.events (all_left (OwnSound taken) (lane_entries n lane) (lanes_entries (n + 1) lanes) own),
  rise_lanes taken (n + 1) lanes last (all_right (OwnSound taken) (lane_entries n lane) (lanes_entries (n + 1) lanes) own) r,
)

-- and back
abbrev OnTime : Entry → Type 0
OnTime e = is_late e.last (key_of e.event) ≡ false

abbrev FirstOnTime : Option Key → List Event → Type 0
FirstOnTime last [] = Unit {0}
FirstOnTime last (e ∷ es) = is_late last (key_of e) ≡ false

next_on_time : (pair : Option Pair) (lane place : ℕ) (e : Event) (es : List Event) → AllByRecursion (λ (x : Placed). at_cmp (record { key = key_of e; lane = lane; place = place }) x.at ≡ Less) (map placed_of (entries_from pair lane (place + 1) (Some (key_of e)) es)) → FirstOnTime (Some (key_of e)) es
next_on_time pair lane place e [] h = tt
next_on_time pair lane place e (d ∷ ds) h = ap not (less_to (key_of e) (key_of d) (same_lane_less (record { key = key_of e; lane = lane; place = place }) (record { key = key_of d; lane = lane; place = place + 1 }) refl h.0))

on_time : (pair : Option Pair) (lane place : ℕ) (last : Option Key) (es : List Event) → FirstOnTime last es → Rises (map placed_of (entries_from pair lane place last es)) → AllByRecursion OnTime (entries_from pair lane place last es)
unfolding IsStrictlySortedBy
on_time pair lane place last [] f r = tt
on_time pair lane place last (e ∷ es) f r = (f, on_time pair lane (place + 1) (Some (key_of e)) es (next_on_time pair lane place e es r.0) r.1)

first_time : (es : List Event) → FirstOnTime None es
first_time [] = tt
first_time (e ∷ es) = refl

lanes_on_time : (n : ℕ) (lanes : List CertLane) (last : List Placed) → AllByRecursion Rises (lanes_from n lanes ++ last ∷ []) → AllByRecursion OnTime (lanes_entries n lanes) × Rises last
lanes_on_time n [] last r = (tt, r.0)
lanes_on_time n (lane ∷ lanes) last r =
    let k = lanes_on_time (n + 1) lanes last r.1 in
    (all_append OnTime (lane_entries n lane) (lanes_entries (n + 1) lanes) (on_time (Some (record { client = lane.client; listen = lane.listen })) n 0 None lane.events (first_time lane.events) r.0) k.0, k.1)

all_on_time : (certificate : Certificate) → AllByRecursion Rises (by_lane certificate) → AllByRecursion OnTime (entries certificate)
all_on_time certificate r =
    let k = lanes_on_time 0 certificate.lanes (the_drops certificate) r in
    all_append OnTime (lanes_entries 0 certificate.lanes) (drop_entries (length certificate.lanes) certificate.drops) k.0
    (on_time None (length certificate.lanes) 0 None (map arrival_of certificate.drops) (first_time (map arrival_of certificate.drops)) k.1)

-- ---- along interfaces

pub placed_event : (pair : Option Pair) (event : Event) (s : SightId) → IsProper pair event → placed (move_of pair event) ≡ Some s → places_in event s ≡ true
placed_event pair event s p h = sym (same_places pair event s p) ∙ placed_places (move_of pair event) s h

module _ (taken : Taken) (numbered : AreNumbered taken) (certificate : Certificate) (sound : Sound taken (entries certificate)) where
  abbrev first_of : SightId → Option At
  first_of s = first_place (entries certificate) s

  -- each stands where its sighting is placed first
  firsts : AllByRecursion (λ (x : Placed). (s : SightId) → placed x.move ≡ Some s → first_of s ≡ Some x.at) (all_placed certificate)
  firsts = all_map (λ (x : Placed). (s : SightId) → placed x.move ≡ Some s → first_of s ≡ Some x.at) (entries certificate)
      (all_two (λ (e : Entry). IsProper e.pair e.event) (λ (e : Entry). (s : SightId) → places_in e.event s ≡ true → first_of s ≡ Some e.at) (λ (e : Entry). (s : SightId) → placed (move_of e.pair e.event) ≡ Some s → first_of s ≡ Some e.at)
      (λ e p f s h. f s (placed_event e.pair e.event s p h)) (entries certificate) (proper certificate)
      (all_of_splits (λ (e : Entry). (s : SightId) → places_in e.event s ≡ true → first_of s ≡ Some e.at) (entries certificate) (λ p e q h s k.
      subst (λ (xs : List Entry). first_place xs s ≡ Some e.at) h (first_at taken numbered certificate p e q s (subst (λ (xs : List Entry). times_in xs s ≤ 1) (sym h) (sound.once s)) k))))

  next_less : (iface i j : ℕ) (b a : At) → j ≡ i + 1 → first_of (record { iface = iface; index = i }) ≡ Some b → first_of (record { iface = iface; index = j }) ≡ Some a → key_cmp b.key a.key ≡ Less
  next_less iface i j b a e h k = less_of b.key a.key (sound.order iface i b a h (subst (λ (n : ℕ). first_of (record { iface = iface; index = n }) ≡ Some a) e k))

  chain : (iface i n j : ℕ) (b a : At) → j ≡ (i + n) + 1 → first_of (record { iface = iface; index = i }) ≡ Some b → first_of (record { iface = iface; index = j }) ≡ Some a → key_cmp b.key a.key ≡ Less
  chain iface i zero j b a e h k = next_less iface i j b a (omega (arith, e)) h k
  chain iface i (suc n) j b a e h k =
      let m : ℕ = (i + n) + 1 in
      let x = has (sighting_at taken (record { iface = iface; index = j })) (placed_there taken (entries certificate) (record { iface = iface; index = j }) sound.own (is_there (first_of (record { iface = iface; index = j })) a k)) in
      let far : j < length (interface_at taken iface) = slice_get_within (interface_at taken iface) j x.0 (in_row taken (record { iface = iface; index = j }) x.0 x.1) in
      let row : slice_get (interface_at taken iface) m ≡ Some _ = slice_get-get_or (interface_at taken iface) m x.0 (omega (arith, far, e)) in
      let c = has (first_of (record { iface = iface; index = m })) (sound.all (record { iface = iface; index = m }) (is_there (sighting_at taken (record { iface = iface; index = m })) _ (of_row taken iface m _ row))) in
      key_total.trans b.key c.0.key a.key (chain iface i n m b c.0 refl h c.1) (next_less iface m j c.0 a (omega (arith, e)) c.1 k)

  follows : (s t : SightId) (b a : At) → s.iface ≡ t.iface → s.index < t.index → first_of s ≡ Some b → first_of t ≡ Some a → key_cmp b.key a.key ≡ Less
  follows s t b a e l h k = chain s.iface s.index ((t.index - s.index) - 1) t.index b a (omega (arith, l)) h (subst (λ (n : ℕ). first_of (record { iface = n; index = t.index }) ≡ Some a) (sym e) k)

  pub along_all : KeysFollow (all_placed certificate)
  along_all = all_weaker (λ (d : Placed). (s : SightId) → placed d.move ≡ Some s → first_of s ≡ Some d.at) (λ (d : Placed). AllByRecursion (KeyFollows d) (all_placed certificate))
      (λ d f. all_weaker (λ (x : Placed). (s : SightId) → placed x.move ≡ Some s → first_of s ≡ Some x.at) (KeyFollows d) (λ x g s t ps pt e l. follows s t d.at x.at e l (f s ps) (g t pt)) (all_placed certificate) firsts)
      (all_placed certificate) firsts

  pub seen_all : AllByRecursion (λ (x : Placed). MayBePlaced taken x.at.key.moment x.move) (all_placed certificate)
  seen_all = all_map (λ (x : Placed). MayBePlaced taken x.at.key.moment x.move) (entries certificate)
      (all_two (λ (e : Entry). IsProper e.pair e.event × OwnSound taken e) (λ (e : Entry). e.at.key ≡ key_of e.event) (λ (e : Entry). MayBePlaced taken e.at.key.moment (move_of e.pair e.event))
      (λ e p k. subst (λ (x : Key). MayBePlaced taken x.moment (move_of e.pair e.event)) (sym k) (seen_event taken e.pair e.last e.event p.0 p.1)) (entries certificate)
      (all_two (λ (e : Entry). IsProper e.pair e.event) (OwnSound taken) (λ (e : Entry). IsProper e.pair e.event × OwnSound taken e) (λ e p o. (p, o)) (entries certificate) (proper certificate) sound.own)
      (keyed certificate))

  pub ends_all : AllByRecursion (λ (e : Entry). AreAtEnds taken e.pair e.event) (entries certificate)
  ends_all = all_weaker (OwnSound taken) (λ (e : Entry). AreAtEnds taken e.pair e.event) (λ e o. ends_event taken e.pair e.last e.event o) (entries certificate) sound.own

  pub rise_all : AllByRecursion Rises (by_lane certificate)
  rise_all = rise_lanes taken 0 certificate.lanes (the_drops certificate)
      (all_left (OwnSound taken) (lanes_entries 0 certificate.lanes) (drop_entries (length certificate.lanes) certificate.drops) sound.own)
      (rises_from taken None (length certificate.lanes) 0 None (map arrival_of certificate.drops) (all_right (OwnSound taken) (lanes_entries 0 certificate.lanes) (drop_entries (length certificate.lanes) certificate.drops) sound.own))

  count_by_case : (s : SightId) (b : Bool) → is_some (sighting_at taken s) ≡ b → times_in (entries certificate) s ≡ cond b 1 0
  count_by_case s true h = omega (arith, sound.once s, some_placed (entries certificate) s (sound.all s h))
  count_by_case s false h = none_placed (entries certificate) s (by_first (is_some (first_of s)) refl) where
    by_first : (c : Bool) → is_some (first_of s) ≡ c → is_some (first_of s) ≡ false
    by_first true k = absurd (true≢false (sym (placed_there taken (entries certificate) s sound.own k) ∙ h))
    by_first false k = k

  pub count_all : (s : SightId) → times_placed s (map step_of (all_placed certificate)) ≡ cond (is_some (sighting_at taken s)) 1 0
  count_all s = same_times (entries certificate) s (proper certificate) ∙ count_by_case s (is_some (sighting_at taken s)) refl

-- ---- and back

any_all : {A : Type 0} (P Q : A → Type 0) (xs : List A) → AnyOf P xs → AllByRecursion Q xs → (x : A) × P x × Q x
any_all P Q [] h a = absurd h
any_all P Q (x ∷ xs) (inl h) a = (x, h, a.0)
any_all P Q (x ∷ xs) (inr h) a = any_all P Q xs h a.1

event_placed : (pair : Option Pair) (event : Event) (s : SightId) → IsProper pair event → places_in event s ≡ true → placed (move_of pair event) ≡ Some s
event_placed None (events.In sight key) s p h = ap Some (sight_true sight s h)
event_placed None (events.Act sight gives key) s p h = absurd p
event_placed None (events.Out sight key) s p h = absurd p
event_placed (Some pair) (events.In sight key) s p h = ap Some (sight_true sight s h)
event_placed (Some pair) (events.Act sight gives key) s p h = absurd (true≢false (sym h))
event_placed (Some pair) (events.Out sight key) s p h = ap Some (sight_true sight s h)

found_by : (e : Entry) (es : List Entry) (s : SightId) (at : At) (here : Bool) → places_in e.event s ≡ here → IsProper e.pair e.event → (first_place es s ≡ Some at → AnyOf (λ (x : Placed). (x.at ≡ at) × (placed x.move ≡ Some s)) (map placed_of es)) →
    cond here (Some e.at) (first_place es s) ≡ Some at → AnyOf (λ (x : Placed). (x.at ≡ at) × (placed x.move ≡ Some s)) (placed_of e ∷ map placed_of es)
found_by e es s at true is p rest h = inl (same_Some e.at at h, event_placed e.pair e.event s p is)
found_by e es s at false is p rest h = inr (rest h)

found : (es : List Entry) (s : SightId) (at : At) → AreProper es → first_place es s ≡ Some at → AnyOf (λ (x : Placed). (x.at ≡ at) × (placed x.move ≡ Some s)) (map placed_of es)
found [] s at p h = absurd (none-some at h)
found (e ∷ es) s at p h = found_by e es s at (places_in e.event s) refl p.0 (found es s at p.1) h

at_most : (b : Bool) → cond {A = ℕ} b 1 0 ≤ 1
at_most true = omega arith
at_most false = omega arith

pub sound_from : (taken : Taken) (certificate : Certificate) → ((s : SightId) → times_placed s (map step_of (all_placed certificate)) ≡ cond (is_some (sighting_at taken s)) 1 0) →
    AllByRecursion (λ (x : Placed). MayBePlaced taken x.at.key.moment x.move) (all_placed certificate) → AllByRecursion (λ (x : Placed). ActIsSeen taken x.move) (all_placed certificate) →
    KeysFollow (all_placed certificate) → AllByRecursion Rises (by_lane certificate) → AllByRecursion (λ (e : Entry). AreAtEnds taken e.pair e.event) (entries certificate) → Sound taken (entries certificate)
sound_from taken certificate count seen acts along rise ends = record {
  own =
      all_two (λ (e : Entry). (IsProper e.pair e.event × AreAtEnds taken e.pair e.event) × (e.at.key ≡ key_of e.event)) (λ (e : Entry). (MayBePlaced taken e.at.key.moment (move_of e.pair e.event) × ActIsSeen taken (move_of e.pair e.event)) × OnTime e) (OwnSound taken)
      (λ e p q. own_event taken e.pair e.last e.event p.0.0 (subst (λ (x : Key). MayBePlaced taken x.moment (move_of e.pair e.event)) p.1 q.0.0) q.0.1 p.0.1 q.1) (entries certificate)
      (all_two (λ (e : Entry). IsProper e.pair e.event × AreAtEnds taken e.pair e.event) (λ (e : Entry). e.at.key ≡ key_of e.event) (λ (e : Entry). (IsProper e.pair e.event × AreAtEnds taken e.pair e.event) × (e.at.key ≡ key_of e.event)) (λ e a b. (a, b)) (entries certificate)
      (all_two (λ (e : Entry). IsProper e.pair e.event) (λ (e : Entry). AreAtEnds taken e.pair e.event) (λ (e : Entry). IsProper e.pair e.event × AreAtEnds taken e.pair e.event) (λ e a b. (a, b)) (entries certificate) (proper certificate) ends) (keyed certificate))
      (all_two (λ (e : Entry). MayBePlaced taken e.at.key.moment (move_of e.pair e.event) × ActIsSeen taken (move_of e.pair e.event)) OnTime (λ (e : Entry). (MayBePlaced taken e.at.key.moment (move_of e.pair e.event) × ActIsSeen taken (move_of e.pair e.event)) × OnTime e) (λ e a b. (a, b)) (entries certificate)
      (all_two (λ (e : Entry). MayBePlaced taken e.at.key.moment (move_of e.pair e.event)) (λ (e : Entry). ActIsSeen taken (move_of e.pair e.event)) (λ (e : Entry). MayBePlaced taken e.at.key.moment (move_of e.pair e.event) × ActIsSeen taken (move_of e.pair e.event)) (λ e a b. (a, b)) (entries certificate)
      (all_unmap (λ (x : Placed). MayBePlaced taken x.at.key.moment x.move) (entries certificate) seen) (all_unmap (λ (x : Placed). ActIsSeen taken x.move) (entries certificate) acts))
      (all_on_time certificate rise));
  once = λ s. subst (λ (n : ℕ). n ≤ 1) (sym (sym (same_times (entries certificate) s (proper certificate)) ∙ count s)) (at_most (is_some (sighting_at taken s)));
  order = λ iface index before at h k.
      let s : SightId = record { iface = iface; index = index } in
      let t : SightId = record { iface = iface; index = index + 1 } in
      let d = any_all (λ (x : Placed). (x.at ≡ before) × (placed x.move ≡ Some s)) (λ (x : Placed). AllByRecursion (KeyFollows x) (all_placed certificate)) (all_placed certificate) (found (entries certificate) s before (proper certificate) h) along in
      let e = any_all (λ (x : Placed). (x.at ≡ at) × (placed x.move ≡ Some t)) (KeyFollows d.0) (all_placed certificate) (found (entries certificate) t at (proper certificate) k) d.2 in
      let less : key_cmp d.0.at.key e.0.at.key ≡ Less = e.2 s t d.1.1 e.1.1 refl (omega arith) in
      less_to before.key at.key (subst (λ (x : At). key_cmp x.key at.key ≡ Less) d.1.0 (subst (λ (x : At). key_cmp d.0.at.key x.key ≡ Less) e.1.0 less));
  all = λ s h. by_first s (is_some (first_place (entries certificate) s)) refl (sym (same_times (entries certificate) s (proper certificate)) ∙ count s ∙ cond-true (is_some (sighting_at taken s)) 1 0 h);
} where
  by_first : (s : SightId) (c : Bool) → is_some (first_place (entries certificate) s) ≡ c → times_in (entries certificate) s ≡ 1 → is_some (first_place (entries certificate) s) ≡ true
  by_first s true k n = k
  by_first s false k n = absurd (omega (arith, n, none_placed (entries certificate) s k))
