-- The lanes with one event more in the last of them.
use Rattle.std.proofs.Common.{◌≡◌, ℕ, zero, suc, ◌+◌, ◌<◌, Bool, false, ◌||◌, List, [], ◌∷◌, ◌++◌, length, get_or, Result, Ok, Err, refl, subst, sym, ap, ◌∙◌, arith}
use Rattle.std.specs.Prelude.{OnOk, OnErr}
use Rattle.std.specs.List.{IsDistinct, AllByRecursion}
use Rattle.std.proofs.Math.ListN.{set}
use Rattle.std.proofs.lemmas.List.{set-get_or, length-append}
use Rattle.std.proofs.lemmas.List.Sums.{sum_by-cons}
use Rattle.audit_model.specs.declared.address.Addr.{Addr}
use Rattle.audit_model.specs.declared.event.Event.{Event}
use Rattle.audit_model.specs.declared.certificate.CertLane.{CertLane}
use Rattle.audit_model.specs.EventCount.{event_count}
use Rattle.audit_model.proofs.Apart.{same_lane_equiv}
use Rattle.audit_model.specs.Lanes.{same_pair, same_lane, has_pair}
use Rattle.audit_cert.specs.CertLines.{with_event}

abbrev pub longer : Event → CertLane → CertLane
longer event lane = record lane { events = lane.events ++ event ∷ [] }

set_last : (event : Event) (lanes : List CertLane) (i : ℕ) (lane : CertLane) → i + 1 ≡ length lanes → lane ≡ get_or lanes i lane → set lanes i (longer event lane) ≡ with_event event lanes
set_last event [] i lane len is = absurd (omega arith)
set_last event (x ∷ []) zero lane len is = ap (λ (l : CertLane). longer event l ∷ []) is
set_last event (x ∷ []) (suc i) lane len is = absurd (omega arith)
set_last event (x ∷ y ∷ more) zero lane len is = absurd (omega arith)
set_last event (x ∷ y ∷ more) (suc i) lane len is = ap (λ (l : List CertLane). x ∷ l) (set_last event (y ∷ more) i lane (omega arith) is)

pub pushed_last : {A E : Type 0} (r : Result A E) (event : Event) (lanes : List CertLane) (i : ℕ) (lane : CertLane) (events : List Event) → i + 1 ≡ length lanes → lane ≡ get_or lanes i lane → OnOk r (events ≡ lane.events ++ event ∷ []) → OnOk r (set lanes i (record lane { events = events }) ≡ with_event event lanes)
pushed_last (Ok x) event lanes i lane events len is e = ap (λ (es : List Event). set lanes i (record lane { events = es })) e ∙ set_last event lanes i lane len is
pushed_last (Err x) event lanes i lane events len is e = tt

pub kept_last : {A E : Type 0} (r : Result A E) (lanes : List CertLane) (i : ℕ) (lane : CertLane) (events : List Event) → lane ≡ get_or lanes i lane → OnErr r (events ≡ lane.events) → OnErr r (set lanes i (record lane { events = events }) ≡ lanes)
kept_last (Ok x) lanes i lane events is e = tt
kept_last (Err x) lanes i lane events is e = ap (λ (es : List Event). set lanes i (record lane { events = es })) e ∙ ap (set lanes i) is ∙ set-get_or lanes i lane

pub length_with_event : (event : Event) (lanes : List CertLane) → length (with_event event lanes) ≡ length lanes
length_with_event event [] = refl
length_with_event event (x ∷ []) = refl
length_with_event event (x ∷ y ∷ more) = ap suc (length_with_event event (y ∷ more))

pub pairs_with_event : (event : Event) (lanes : List CertLane) (client listen : Addr) → has_pair client listen (with_event event lanes) ≡ has_pair client listen lanes
pairs_with_event event [] client listen = refl
pairs_with_event event (x ∷ []) client listen = refl
pairs_with_event event (x ∷ y ∷ more) client listen = ap (λ (t : Bool). same_pair client listen x.client x.listen || t) (pairs_with_event event (y ∷ more) client listen)

one_longer : (event : Event) (lane : CertLane) → length (lane.events ++ event ∷ []) ≡ length lane.events + 1
one_longer event lane = omega (arith, length-append lane.events (event ∷ []))

abbrev pub events_of : CertLane → ℕ
events_of lane = length lane.events

pub count_with_event : (event : Event) (lanes : List CertLane) → 0 < length lanes → event_count (with_event event lanes) ≡ event_count lanes + 1
count_with_event event [] some = absurd (omega arith)
count_with_event event (x ∷ []) some = omega (arith, one_longer event x)
count_with_event event (x ∷ y ∷ more) some =
    omega (arith, count_with_event event (y ∷ more) (omega arith), sum_by-cons events_of x (y ∷ more), sum_by-cons events_of x (with_event event (y ∷ more)))

-- ---- no two lanes have one pair

pub same_lane_symm : (a b : CertLane) → same_lane a b ≡ same_lane b a
same_lane_symm a b = same_lane_equiv.symm a b

pub none_apart : (lanes : List CertLane) → lanes ≡ [] → IsDistinct same_lane lanes
unfolding IsDistinct
none_apart lanes e = subst (IsDistinct same_lane) (sym e) tt

apart_from : (event : Event) (lane : CertLane) (lanes : List CertLane) → AllByRecursion (λ other. same_lane lane other ≡ false) lanes → AllByRecursion (λ other. same_lane lane other ≡ false) (with_event event lanes)
apart_from event lane [] apart = tt
apart_from event lane (x ∷ []) apart = apart
apart_from event lane (x ∷ y ∷ more) apart = (apart.0, apart_from event lane (y ∷ more) apart.1)

pub apart_with_event : (event : Event) (lanes : List CertLane) → IsDistinct same_lane lanes → IsDistinct same_lane (with_event event lanes)
unfolding IsDistinct
apart_with_event event [] apart = tt
apart_with_event event (x ∷ []) apart = apart
apart_with_event event (x ∷ y ∷ more) apart = (apart_from event x (y ∷ more) apart.0, apart_with_event event (y ∷ more) apart.1)
