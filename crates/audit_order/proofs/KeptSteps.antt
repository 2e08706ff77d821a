-- What is kept of a certificate that grows in portions, from one portion to the next.
use Rattle.std.proofs.Common.{◌≡◌, ◌≤◌, ℕ, ◌+◌, true, List, [], ◌∷◌, length, map, min, Option, Some, None, refl, sym, ap, ◌∙◌, subst, arith, append-nil}
use Rattle.std.specs.Prelude.{is_some}
use Rattle.std.proofs.lemmas.List.{length-map}
use Rattle.std.proofs.lemmas.List.Elements.{All-nil}
use Rattle.std.proofs.lemmas.List.Sums.{sum_by-cons}
use Rattle.std.proofs.lemmas.Option.{none-some}
use Rattle.audit_model.specs.declared.certificate.Certificate.{Certificate}
use Rattle.audit_model.specs.declared.certificate.CertDrop.{CertDrop}
use Rattle.audit_model.specs.declared.certificate.CertLane.{CertLane}
use Rattle.audit_model.specs.declared.event.Event.{Event}
use Rattle.audit_model.specs.declared.event.Key.{Key}
use Rattle.audit_model.specs.declared.sighting.SightId.{SightId}
use Rattle.audit_model.specs.Event.{key_of}
use Rattle.audit_model.specs.EventCount.{event_count}
use Rattle.audit_sightings.specs.Intake.{Taken}
use Rattle.audit_sightings.specs.ByInterface.{of_interface}
use Rattle.audit_placement.specs.declared.entry.Entry.{Entry}
use Rattle.audit_model.specs.declared.pair.Pair.{Pair}
use Rattle.audit_order.specs.declared.growing.Growing.{Growing}
use Rattle.audit_placement.specs.declared.places.Places.{Places}
use Rattle.audit_order.specs.declared.portions.Placing.{Placing}
use Rattle.audit_placement.specs.declared.places.Places.TheVariants.{Once, First}
use Rattle.audit_placement.specs.Clean.{IsFine, IsClean, one_if}
use Rattle.audit_placement.specs.Entries.{entries_from, lane_entries, lanes_entries, drop_entries, arrival_of, entries}
use Rattle.audit_order.specs.Growing.{listed, places_one, placing_count, IsSound}
use Rattle.audit_placement.specs.Keys.{key_at}
use Rattle.audit_order.specs.Kept.{AreOf, Keeps, Stays}
use Rattle.audit_placement.specs.Places.{Knows}
use Rattle.audit_placement.proofs.CleanMore.{clean_same}
use Rattle.audit_placement.proofs.CleanSteps.{clean_tells, one_at_most}
use Rattle.audit_order.proofs.GrowingSteps.{placing_cons, placing_append}
use Rattle.audit_order.proofs.StaySteps.{clean_still}

-- where nothing is placed, nothing is noted
clean_none : (taken : Taken) (noted : SightId → Option Key) → ((s : SightId) → noted s ≡ None) → IsClean taken noted []
clean_none taken noted none = record {
  fine = All-nil (IsFine taken noted);
  once = λ s. ap (λ (o : Option Key). one_if (is_some o)) (sym (none s));
  order = λ iface index before at first second. absurd (none-some before (sym (none _) ∙ first));
}

pub nothing_kept : (taken : Taken) (certificate : Certificate) (noted : SightId → Option Key) → certificate.lanes ≡ [] → certificate.drops ≡ [] → ((s : SightId) → noted s ≡ None)
    → IsClean taken noted (entries certificate)
nothing_kept taken certificate noted lanes drops none =
    subst (IsClean taken noted) (sym (empty_entries certificate lanes drops)) (clean_none taken noted none)
  where
    empty_entries : (c : Certificate) → c.lanes ≡ [] → c.drops ≡ [] → entries c ≡ []
    empty_entries c lanes drops = ap (λ (ls : List CertLane). listed ls c.drops) lanes ∙ ap (λ (ds : List CertDrop). listed [] ds) drops

pub none_counted : (certificate : Certificate) → certificate.lanes ≡ [] → certificate.drops ≡ [] → 0 ≡ placing_count (entries certificate)
none_counted c lanes drops = sym (ap (λ (ls : List CertLane). placing_count (listed ls c.drops)) lanes ∙ ap (λ (ds : List CertDrop). placing_count (listed [] ds)) drops)

-- what is kept tells which sightings are placed
pub kept_knows : (taken : Taken) (certificate : Certificate) (places : Places) → AreOf taken certificate places → Knows certificate places (entries certificate)
kept_knows taken certificate (Once keys) are = λ s. clean_tells taken (key_at keys) (entries certificate) are s
kept_knows taken certificate (First first) are = λ s. ap is_some (are s)

-- no more entries place a sighting than there are
few_placing : (es : List Entry) → placing_count es ≤ length es
few_placing [] = omega arith
few_placing (e ∷ es) = omega (arith, placing_cons e es, one_at_most (places_one e.event), few_placing es)

from_length : (pair : Option Pair) (lane place : ℕ) (last : Option Key) (events : List Event) → length (entries_from pair lane place last events) ≡ length events
from_length pair lane place last [] = refl
from_length pair lane place last (event ∷ events) = let rest = from_length pair lane (place + 1) (Some (key_of event)) events in omega (arith, rest)

lanes_placing : (number : ℕ) (lanes : List CertLane) → placing_count (lanes_entries number lanes) ≤ event_count lanes
lanes_placing number [] = omega arith
lanes_placing number (lane ∷ lanes) =
    let rest = lanes_placing (number + 1) lanes in
    let one = few_placing (lane_entries number lane) in
    let size = from_length (Some (record { client = lane.client; listen = lane.listen })) number 0 None lane.events in
    omega (arith, rest, one, size, placing_append (lane_entries number lane) (lanes_entries (number + 1) lanes), sum_by-cons (λ (l : CertLane). length l.events) lane lanes)

pub placing_few : (lanes : List CertLane) (drops : List CertDrop) → placing_count (listed lanes drops) ≤ event_count lanes + length drops
placing_few lanes drops =
    let n = length lanes in
    let one = few_placing (drop_entries n drops) in
    let size = from_length None n 0 None (map arrival_of drops) in
    omega (arith, lanes_placing 0 lanes, one, size, length-map drops arrival_of, placing_append (lanes_entries 0 lanes) (drop_entries n drops))

-- a count within the limits is right
pub count_right : (lanes : List CertLane) (drops : List CertDrop) (count : ℕ) → count ≡ min (placing_count (listed lanes drops)) 4294967295
    → event_count lanes + length drops ≤ 50331648 → count ≡ placing_count (listed lanes drops)
count_right lanes drops count is few = omega (arith, is, few, placing_few lanes drops)

-- and the other way round
pub count_within : (lanes : List CertLane) (drops : List CertDrop) (count : ℕ) → count ≡ placing_count (listed lanes drops)
    → event_count lanes + length drops ≤ 50331648 → count ≡ min (placing_count (listed lanes drops)) 4294967295
count_within lanes drops count is few = omega (arith, is, few, placing_few lanes drops)

-- what is sound stays so as sightings come, with room for them
pub sound_still : (before now : Taken) (old new : Growing) → Stays before now → ((s : SightId) → key_at new.keys s ≡ key_at old.keys s)
    → new.lanes ≡ old.lanes → new.drops ≡ old.drops → new.clean ≡ old.clean → new.count ≡ old.count → IsSound before old → IsSound now new
sound_still before now old new stays keys lanes drops clean count sound =
    let same : listed new.lanes.items new.drops ≡ listed old.lanes.items old.drops =
    ap (λ ls. listed ls.items new.drops) lanes ∙ ap (λ (ds : List CertDrop). listed old.lanes.items ds) drops in
    record {
      clean = λ is. subst (IsClean now (key_at new.keys)) (sym same)
          (clean_same now (key_at old.keys) (key_at new.keys) (listed old.lanes.items old.drops) keys
          (clean_still before now stays (key_at old.keys) (listed old.lanes.items old.drops) (sound.clean (sym clean ∙ is))));
      counted = count ∙ sound.counted ∙ ap (λ es. min (placing_count es) 4294967295) (sym same);
    }

-- what has grown so far is sound
pub kept_sound : (taken : Taken) (certificate : Certificate) (growing : Growing) (count : ℕ) → growing.lanes.items ≡ certificate.lanes → growing.drops ≡ certificate.drops
    → (growing.clean ≡ true → IsClean taken (key_at growing.keys) (entries certificate)) → growing.count ≡ count → count ≡ placing_count (entries certificate) → IsSound taken growing
kept_sound taken certificate growing count lanes drops clean same counted =
    let all : listed growing.lanes.items growing.drops ≡ entries certificate =
    ap (λ (ls : List CertLane). listed ls growing.drops) lanes ∙ ap (λ (ds : List CertDrop). listed certificate.lanes ds) drops in
    record {
      clean = λ is. subst (IsClean taken (key_at growing.keys)) (sym all) (clean is);
      counted = same ∙ count_within certificate.lanes certificate.drops count counted certificate.few_events ∙ ap (λ es. min (placing_count es) 4294967295) (sym all);
    }

same_listed : (growing : Growing) (lanes : List CertLane) (drops : List CertDrop) → lanes ≡ growing.lanes.items → drops ≡ growing.drops → listed lanes drops ≡ listed growing.lanes.items growing.drops
same_listed growing lanes drops of_lanes of_drops = ap (λ (ls : List CertLane). listed ls drops) of_lanes ∙ ap (λ (ds : List CertDrop). listed growing.lanes.items ds) of_drops

-- the count of what has grown is that of its certificate
pub count_settled : (taken : Taken) (growing : Growing) (lanes : List CertLane) (drops : List CertDrop) → lanes ≡ growing.lanes.items → drops ≡ growing.drops
    → event_count growing.lanes.items + length growing.drops ≤ 50331648 → IsSound taken growing → growing.count ≡ placing_count (listed lanes drops)
count_settled taken growing lanes drops of_lanes of_drops few sound =
    count_right growing.lanes.items growing.drops growing.count sound.counted few ∙ ap placing_count (sym (same_listed growing lanes drops of_lanes of_drops))

pub clean_settled : (taken : Taken) (growing : Growing) (lanes : List CertLane) (drops : List CertDrop) → lanes ≡ growing.lanes.items → drops ≡ growing.drops → IsSound taken growing
    → growing.clean ≡ true → IsClean taken (key_at growing.keys) (listed lanes drops)
clean_settled taken growing lanes drops of_lanes of_drops sound is =
    subst (IsClean taken (key_at growing.keys)) (sym (same_listed growing lanes drops of_lanes of_drops)) (sound.clean is)

-- what is kept of an intake is kept of it as it grows
pub kept_still : (before now : Taken) (placing : Placing) → Stays before now → Keeps before placing → Keeps now placing
kept_still before now placing stays kept = record {
  places = still placing.places kept.places;
  count = kept.count;
  events = kept.events;
  pairs = kept.pairs;
}
  where
    still : (places : Places) → AreOf before placing.certificate places → AreOf now placing.certificate places
    still (Once keys) are = clean_still before now stays (key_at keys) (entries placing.certificate) are
    still (First first) are = are

-- an intake that didn't grow
pub stays_same : (taken : Taken) → Stays taken taken
stays_same taken = record { policy = refl; rows = λ iface. ([], sym (append-nil (of_interface taken.interfaces iface))) }
