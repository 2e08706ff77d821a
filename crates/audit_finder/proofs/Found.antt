-- What a certificate keeps of what is found.
use Rattle.std.proofs.Common.{◌≡◌, false, List, [], ◌∷◌, ◌++◌, All, Some, length, map, refl, ap, arith}
use Rattle.std.specs.List.{IsDistinct, AllByRecursion}
use Rattle.std.proofs.lemmas.List.{map_push}
use Rattle.std.proofs.lemmas.List.Sums.{sum_by-cons, sum_by_push}
use Rattle.std.proofs.lemmas.List.Elements.{All-nil, All-cons, All-push, All-pop}
use Rattle.audit_model.specs.declared.certificate.CertLane.{CertLane}
use Rattle.audit_model.specs.declared.sighting.SightId.{SightId}
use Rattle.audit_model.specs.EventCount.{event_count}
use Rattle.audit_model.specs.Lanes.{same_lane}
use Rattle.audit_sightings.specs.Intake.{Taken, NamesWhatIsThere}
use Rattle.audit_clients.specs.Clients.{Pair, same}
use Rattle.audit_finder.specs.Found.{pair_of, empty_lane, AllNamed}
use Rattle.audit_finder.specs.Departures.{outs, out_count}

other_lanes : (lane : CertLane) (lanes : List CertLane) → AllByRecursion (λ p. same (pair_of lane) p ≡ false) (map pair_of lanes)
    → AllByRecursion (λ other. same_lane lane other ≡ false) lanes
other_lanes lane [] others = tt
other_lanes lane (x ∷ lanes) others = (others.0, other_lanes lane lanes others.1)

-- lanes are apart where their pairs are
pub lanes_apart : (lanes : List CertLane) → IsDistinct same (map pair_of lanes) → IsDistinct same_lane lanes
unfolding IsDistinct
lanes_apart [] apart = tt
lanes_apart (x ∷ lanes) apart = (other_lanes x lanes apart.0, lanes_apart lanes apart.1)

pub pairs_of_empty : (pairs : List Pair) → map pair_of (map empty_lane pairs) ≡ pairs
pairs_of_empty [] = refl
pairs_of_empty (p ∷ pairs) = ap (λ (ps : List Pair). p ∷ ps) (pairs_of_empty pairs)

pub none_in_empty : (pairs : List Pair) → event_count (map empty_lane pairs) ≡ 0
none_in_empty [] = refl
none_in_empty (p ∷ pairs) = omega (arith, sum_by-cons (λ (l : CertLane). length l.events) (empty_lane p) (map empty_lane pairs), none_in_empty pairs)

pub none_leaves : (s : SightId) (pairs : List Pair) → out_count s (map empty_lane pairs) ≡ 0
none_leaves s [] = refl
none_leaves s (p ∷ pairs) = omega (arith, sum_by-cons (outs s) (empty_lane p) (map empty_lane pairs), none_leaves s pairs)

pub empty_named : (taken : Taken) (pairs : List Pair) → AllNamed taken (map empty_lane pairs)
empty_named taken [] = All-nil (λ (l : CertLane). All (NamesWhatIsThere taken) l.events)
empty_named taken (p ∷ pairs) = All-cons (λ (l : CertLane). All (NamesWhatIsThere taken) l.events) (empty_lane p) (map empty_lane pairs) (All-nil (NamesWhatIsThere taken)) (empty_named taken pairs)

module _ (all yielded : List CertLane) (x y : CertLane) where
  pub more_pairs : pair_of x ≡ pair_of y → map pair_of all ≡ map pair_of yielded → map pair_of (all ++ x ∷ []) ≡ map pair_of (yielded ++ y ∷ [])
  more_pairs same_pair so_far = rw (map_push pair_of all x, map_push pair_of yielded y, so_far, same_pair) refl

  pub more_events : length x.events ≡ length y.events → event_count all ≡ event_count yielded → event_count (all ++ x ∷ []) ≡ event_count (yielded ++ y ∷ [])
  more_events same_count so_far =
      omega (arith, sum_by_push (λ (l : CertLane). length l.events) all x, sum_by_push (λ (l : CertLane). length l.events) yielded y, same_count, so_far)

  pub more_outs : (s : SightId) → outs s x ≡ outs s y → out_count s all ≡ out_count s yielded → out_count s (all ++ x ∷ []) ≡ out_count s (yielded ++ y ∷ [])
  more_outs s same_outs so_far = omega (arith, sum_by_push (outs s) all x, sum_by_push (outs s) yielded y, same_outs, so_far)

module _ (taken : Taken) (all yielded : List CertLane) (x y : CertLane) where
  abbrev named : CertLane → Type 0
  named l = All (NamesWhatIsThere taken) l.events

  pub more_named : (named y → named x) → (AllNamed taken yielded → AllNamed taken all) → AllNamed taken (yielded ++ y ∷ []) → AllNamed taken (all ++ x ∷ [])
  more_named keeps so_far each = All-push named all x (so_far (All-pop named _ yielded (Some y) refl each).0) (keeps (All-pop named _ yielded (Some y) refl each).1)

pub nothing_left : (lanes : List CertLane) → length lanes ≡ 0 → lanes ≡ []
nothing_left [] none = refl
nothing_left (x ∷ lanes) none = absurd (omega (arith, none))
