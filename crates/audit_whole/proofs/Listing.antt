-- What a certificate places, lane by lane.
use Rattle.std.proofs.Common.{◌≡◌, ◌+◌, ℕ, false, Option, Some, None, List, [], ◌∷◌, ◌++◌, length, map, refl, sym, ◌∙◌, ap, subst, arith, append_assoc}
use Rattle.std.specs.List.{AllByRecursion, slice_get, IsDistinct}
use Rattle.std.proofs.lemmas.List.{append-nil}
use Rattle.audit_model.specs.declared.certificate.Certificate.{Certificate}
use Rattle.audit_model.specs.declared.certificate.CertLane.{CertLane}
use Rattle.audit_model.specs.declared.certificate.CertDrop.{CertDrop}
use Rattle.audit_model.specs.declared.event.Event.{Event}
use Rattle.audit_model.specs.declared.event.Event.TheVariants as events
use Rattle.audit_model.specs.declared.event.Key.{Key}
use Rattle.audit_model.specs.Event.{key_of}
use Rattle.audit_model.specs.Lanes.{same_lane}
use Rattle.audit_placement.specs.declared.entry.Entry.{Entry}
use Rattle.audit_model.specs.declared.pair.Pair.{Pair}
use Rattle.audit_placement.specs.Entries.{entries_from, lane_entries, lanes_entries, drop_entries, arrival_of, entries}
use Rattle.audit_model.specs.Sames.{same_client}
use Rattle.audit_server.specs.Placed.{Placed}
use Rattle.audit_server.specs.Homes.{IsOfPair, AreOfPairs, AreDistinct}
use Rattle.audit_server.specs.Glued.{joined, Numbered}
use Rattle.audit_server.proofs.Orders.{all_append}
use Rattle.audit_server.proofs.Placing.{distinct_places}
use Rattle.audit_whole.specs.Glued.{move_of, placed_of, lanes_from, the_drops, by_lane, all_placed, pair_of_lane, pairs_of}

pub map_append : {A B : Type 0} (f : A → B) (xs ys : List A) → map f (xs ++ ys) ≡ map f xs ++ map f ys
map_append f [] ys = refl
map_append f (x ∷ xs) ys = ap (λ zs. f x ∷ zs) (map_append f xs ys)

-- ---- the lists are numbered

from_lane : (pair : Option Pair) (lane place : ℕ) (last : Option Key) (es : List Event) → AllByRecursion (λ (e : Placed). e.at.lane ≡ lane) (map placed_of (entries_from pair lane place last es))
from_lane pair lane place last [] = tt
from_lane pair lane place last (e ∷ es) = (refl, from_lane pair lane (place + 1) (Some (key_of e)) es)

numbered_lanes : (n : ℕ) (lanes : List CertLane) (last : List Placed) → AllByRecursion (λ (e : Placed). e.at.lane ≡ n + length lanes) last → Numbered n (lanes_from n lanes ++ last ∷ [])
numbered_lanes n [] last h = (subst (λ (m : ℕ). AllByRecursion (λ (e : Placed). e.at.lane ≡ m) last) (omega arith) h, tt)
numbered_lanes n (lane ∷ lanes) last h = (
  from_lane (Some (record { client = lane.client; listen = lane.listen })) n 0 None lane.events,
  numbered_lanes (n + 1) lanes last (subst (λ (m : ℕ). AllByRecursion (λ (e : Placed). e.at.lane ≡ m) last) (omega arith) h),
)

pub numbered : (certificate : Certificate) → Numbered 0 (by_lane certificate)
numbered certificate =
    numbered_lanes 0 certificate.lanes (the_drops certificate)
    (subst (λ (m : ℕ). AllByRecursion (λ (e : Placed). e.at.lane ≡ m) (the_drops certificate)) (omega arith) (from_lane None (length certificate.lanes) 0 None (map arrival_of certificate.drops)))

-- ---- and they are all

joined_lanes : (n : ℕ) (lanes : List CertLane) (last : List Placed) → joined (lanes_from n lanes ++ last ∷ []) ≡ map placed_of (lanes_entries n lanes) ++ last
joined_lanes n [] last = append-nil last
joined_lanes n (lane ∷ lanes) last =
    ap (λ xs. map placed_of (lane_entries n lane) ++ xs) (joined_lanes (n + 1) lanes last)
    ∙ sym (append_assoc (map placed_of (lane_entries n lane)) (map placed_of (lanes_entries (n + 1) lanes)) last)
    ∙ ap (λ xs. xs ++ last) (sym (map_append placed_of (lane_entries n lane) (lanes_entries (n + 1) lanes)))

pub joined_is : (certificate : Certificate) → joined (by_lane certificate) ≡ all_placed certificate
joined_is certificate =
    joined_lanes 0 certificate.lanes (the_drops certificate)
    ∙ sym (map_append placed_of (lanes_entries 0 certificate.lanes) (drop_entries (length certificate.lanes) certificate.drops))

-- ---- the acts of each lane are of its pair

from_pair : (pairs : ℕ → Option Pair) (pair : Pair) (lane place : ℕ) (last : Option Key) (es : List Event) → pairs lane ≡ Some pair → AreOfPairs pairs (map placed_of (entries_from (Some pair) lane place last es))
from_pair pairs pair lane place last [] h = tt
from_pair pairs pair lane place last (e ∷ es) h = (by_event e, from_pair pairs pair lane (place + 1) (Some (key_of e)) es h) where
  by_event : (d : Event) → IsOfPair pairs lane (move_of (Some pair) d)
  by_event (events.In sight key) = tt
  by_event (events.Act sight gives key) = h
  by_event (events.Out sight key) = tt

drops_pair : (pairs : ℕ → Option Pair) (lane place : ℕ) (last : Option Key) (es : List Event) → AreOfPairs pairs (map placed_of (entries_from None lane place last es))
drops_pair pairs lane place last [] = tt
drops_pair pairs lane place last (e ∷ es) = (tt, drops_pair pairs lane (place + 1) (Some (key_of e)) es)

get_past : {A : Type 0} (xs : List A) (y : A) (ys : List A) → slice_get (xs ++ y ∷ ys) (length xs) ≡ Some y
get_past [] y ys = refl
get_past (x ∷ xs) y ys = get_past xs y ys

lanes_pair : (n : ℕ) (before lanes : List CertLane) → n ≡ length before → AreOfPairs (slice_get (map pair_of_lane (before ++ lanes))) (map placed_of (lanes_entries n lanes))
lanes_pair n before [] h = tt
lanes_pair n before (lane ∷ lanes) h =
    let pairs : ℕ → Option Pair = slice_get (map pair_of_lane (before ++ lane ∷ lanes)) in
    let here : pairs n ≡ Some (pair_of_lane lane) = at_place before lane lanes n h in
    subst (AreOfPairs pairs) (sym (map_append placed_of (lane_entries n lane) (lanes_entries (n + 1) lanes)))
    (all_append (λ (e : Placed). IsOfPair pairs e.at.lane e.move) (map placed_of (lane_entries n lane)) (map placed_of (lanes_entries (n + 1) lanes))
    (from_pair pairs (record { client = lane.client; listen = lane.listen }) n 0 None lane.events here)
    (subst (λ (all : List CertLane). AreOfPairs (slice_get (map pair_of_lane all)) (map placed_of (lanes_entries (n + 1) lanes))) (append_assoc before (lane ∷ []) lanes) (lanes_pair (n + 1) (before ++ lane ∷ []) lanes (longer before lane n h)))) where
      at_place : (xs : List CertLane) (x : CertLane) (ys : List CertLane) (m : ℕ) → m ≡ length xs → slice_get (map pair_of_lane (xs ++ x ∷ ys)) m ≡ Some (pair_of_lane x)
      at_place xs x ys m e =
          ap (λ zs. slice_get zs m) (map_append pair_of_lane xs (x ∷ ys))
          ∙ ap (slice_get (map pair_of_lane xs ++ pair_of_lane x ∷ map pair_of_lane ys)) (e ∙ sym (map_length xs))
          ∙ get_past (map pair_of_lane xs) (pair_of_lane x) (map pair_of_lane ys) where
            map_length : (zs : List CertLane) → length (map pair_of_lane zs) ≡ length zs
            map_length [] = refl
            map_length (z ∷ zs) = omega (arith, map_length zs)

      longer : (xs : List CertLane) (x : CertLane) (m : ℕ) → m ≡ length xs → m + 1 ≡ length (xs ++ x ∷ [])
      longer xs x m e = omega (arith, e, more xs) where
        more : (zs : List CertLane) → length (zs ++ x ∷ []) ≡ length zs + 1
        more [] = refl
        more (z ∷ zs) = omega (arith, more zs)

pub of_pairs : (certificate : Certificate) → AreOfPairs (pairs_of certificate) (all_placed certificate)
of_pairs certificate =
    subst (AreOfPairs (pairs_of certificate)) (sym (map_append placed_of (lanes_entries 0 certificate.lanes) (drop_entries (length certificate.lanes) certificate.drops)))
    (all_append (λ (e : Placed). IsOfPair (pairs_of certificate) e.at.lane e.move) (map placed_of (lanes_entries 0 certificate.lanes)) (the_drops certificate)
    (lanes_pair 0 [] certificate.lanes refl)
    (drops_pair (pairs_of certificate) (length certificate.lanes) 0 None (map arrival_of certificate.drops)))

-- ---- no two lanes have one pair

apart_map : (lane : CertLane) (lanes : List CertLane) → AllByRecursion (λ other. same_lane lane other ≡ false) lanes → AllByRecursion (λ c. same_client (pair_of_lane lane) c ≡ false) (map pair_of_lane lanes)
apart_map lane [] h = tt
apart_map lane (x ∷ xs) h = (h.0, apart_map lane xs h.1)

distinct_map : (lanes : List CertLane) → IsDistinct same_lane lanes → IsDistinct same_client (map pair_of_lane lanes)
unfolding IsDistinct
distinct_map [] h = tt
distinct_map (lane ∷ lanes) h = (apart_map lane lanes h.0, distinct_map lanes h.1)

pub distinct_pairs : (certificate : Certificate) → AreDistinct (pairs_of certificate)
distinct_pairs certificate = distinct_places (map pair_of_lane certificate.lanes) (distinct_map certificate.lanes certificate.distinct)

-- ---- drops only come in

abbrev pub IsProper : Option Pair → Event → Type 0
IsProper None (events.In sight key) = Unit {0}
IsProper None (events.Act sight gives key) = ⊥
IsProper None (events.Out sight key) = ⊥
IsProper (Some pair) event = Unit {0}

abbrev pub AreProper : List Entry → Type 0
AreProper es = AllByRecursion (λ (e : Entry). IsProper e.pair e.event) es

from_proper : (pair : Pair) (lane place : ℕ) (last : Option Key) (es : List Event) → AreProper (entries_from (Some pair) lane place last es)
from_proper pair lane place last [] = tt
from_proper pair lane place last (e ∷ es) = (tt, from_proper pair lane (place + 1) (Some (key_of e)) es)

lanes_proper : (n : ℕ) (lanes : List CertLane) → AreProper (lanes_entries n lanes)
lanes_proper n [] = tt
lanes_proper n (lane ∷ lanes) = all_append (λ (e : Entry). IsProper e.pair e.event) (lane_entries n lane) (lanes_entries (n + 1) lanes) (from_proper (record { client = lane.client; listen = lane.listen }) n 0 None lane.events) (lanes_proper (n + 1) lanes)

drops_proper : (lane place : ℕ) (last : Option Key) (ds : List CertDrop) → AreProper (entries_from None lane place last (map arrival_of ds))
drops_proper lane place last [] = tt
drops_proper lane place last (d ∷ ds) = (tt, drops_proper lane (place + 1) (Some d.key) ds)

pub proper : (certificate : Certificate) → AreProper (entries certificate)
proper certificate = all_append (λ (e : Entry). IsProper e.pair e.event) (lanes_entries 0 certificate.lanes) (drop_entries (length certificate.lanes) certificate.drops) (lanes_proper 0 certificate.lanes) (drops_proper (length certificate.lanes) 0 None certificate.drops)
