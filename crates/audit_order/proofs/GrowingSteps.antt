-- What is kept of a certificate that grows, as it gains a lane, an event or a drop.
use Rattle.std.proofs.Common.{◌≡◌, ◌<◌, ℕ, zero, suc, ◌+◌, ◌-◌, true, List, [], ◌∷◌, ◌++◌, All, length, map, min, Option, Some, None, get_or, set, refl, sym, ap, ◌∙◌, subst, append_assoc, append-nil, arith}
use Rattle.std.specs.Prelude.{option_map, slice_get, sum_by}
use Rattle.std.proofs.lemmas.List.{map-append, length-map}
use Rattle.std.proofs.lemmas.List.Elements.{All-nil, All-cons, All-head, All-tail, All-append}
use Rattle.std.proofs.lemmas.List.Sums.{sum_by-cons, sum_by-append}
use Rattle.std.proofs.lemmas.Option.{none-some, same_Some, slice_get-map}
use Rattle.audit_model.specs.declared.address.Addr.{Addr}
use Rattle.audit_model.specs.declared.certificate.CertDrop.{CertDrop}
use Rattle.audit_model.specs.declared.certificate.CertLane.{CertLane}
use Rattle.audit_model.specs.declared.event.Event.{Event}
use Rattle.audit_model.specs.declared.event.Key.{Key}
use Rattle.audit_model.specs.declared.sighting.SightId.{SightId}
use Rattle.audit_model.specs.Event.{key_of}
use Rattle.audit_sightings.specs.Intake.{Taken}
use Rattle.audit_placement.specs.declared.entry.Entry.{Entry}
use Rattle.audit_placement.specs.declared.entry.LaneEnd.{LaneEnd}
use Rattle.audit_model.specs.declared.pair.Pair.{Pair}
use Rattle.audit_order.specs.declared.growing.Growing.{Growing}
use Rattle.audit_placement.specs.Clean.{IsFine, IsClean, Takes, one_if}
use Rattle.audit_placement.specs.Entries.{entry_of, entries_from, lane_entries, lanes_entries, drop_entries, arrival_of}
use Rattle.audit_placement.specs.FirstPlace.{places}
use Rattle.audit_order.specs.Grown.{empty_lane}
use Rattle.audit_order.specs.Growing.{listed, with_event, last_key, places_one, placing_count, IsSound}
use Rattle.audit_placement.specs.Keys.{key_at}
use Rattle.audit_placement.proofs.CleanMore.{clean_more}
use Rattle.audit_placement.proofs.CleanSteps.{all_left, all_right, times_append}
use Rattle.audit_placement.proofs.Turns.{last_of, entries_push, lanes_push}

-- the new entries are the old ones with one more among them
pub record Gains (old new : List Entry) (entry : Entry) : Type 0 where
  pub before : List Entry
  pub behind : List Entry
  pub was : old ≡ before ++ behind
  pub is : new ≡ before ++ entry ∷ behind

gains_behind : (old new others : List Entry) (entry : Entry) → Gains old new entry → Gains (others ++ old) (others ++ new) entry
gains_behind old new others entry gains = record {
  before = others ++ gains.before;
  behind = gains.behind;
  was = ap (λ es. others ++ es) gains.was ∙ sym (append_assoc others gains.before gains.behind);
  is = ap (λ es. others ++ es) gains.is ∙ sym (append_assoc others gains.before (entry ∷ gains.behind));
}

gains_before : (old new others : List Entry) (entry : Entry) → Gains old new entry → Gains (old ++ others) (new ++ others) entry
gains_before old new others entry gains = record {
  before = gains.before;
  behind = gains.behind ++ others;
  was = ap (λ es. es ++ others) gains.was ∙ append_assoc gains.before gains.behind others;
  is = ap (λ es. es ++ others) gains.is ∙ append_assoc gains.before (entry ∷ gains.behind) others;
}

last_is : (last : Option Key) (event : Event) (events : List Event) → last_of last (event ∷ events) ≡ option_map key_of (slice_get (event ∷ events) (length events))
last_is last event [] = refl
last_is last event (next ∷ events) = last_is (Some (key_of event)) next events

-- the key of the last, by either definition
last_same : (events : List Event) → last_of None events ≡ last_key events
last_same [] = refl
last_same (event ∷ events) =
    let e : length (event ∷ events) - 1 ≡ length events = omega arith in
    last_is None event events ∙ sym (ap (λ (n : ℕ). option_map key_of (slice_get (event ∷ events) n)) e)

-- the entry of the next event behind those
abbrev next_entry : Option Pair → ℕ → List Event → Event → Entry
next_entry pair lane events event = entry_of pair lane (0 + length events) (last_of None events) event

-- an event more in a lane
gains_event : (n : ℕ) (lanes : List CertLane) (number : ℕ) (lane : CertLane) (event : Event) → slice_get lanes number ≡ Some lane
    → (place : ℕ) × Gains (lanes_entries n lanes) (lanes_entries n (with_event number event lanes)) (entry_of (Some (record { client = lane.client; listen = lane.listen })) place (0 + length lane.events) (last_of None lane.events) event)
gains_event n [] number lane event there = absurd (none-some lane there)
gains_event n (first ∷ lanes) zero lane event there = (
  n,
  subst (λ (l : CertLane). Gains (lanes_entries n (first ∷ lanes)) (lanes_entries n (with_event 0 event (first ∷ lanes))) (entry_of (Some (record { client = l.client; listen = l.listen })) n (0 + length l.events) (last_of None l.events) event))
      (same_Some first lane there)
      (record {
        before = lane_entries n first;
        behind = lanes_entries (n + 1) lanes;
        was = refl;
        is = ap (λ es. es ++ lanes_entries (n + 1) lanes) (entries_push (Some (record { client = first.client; listen = first.listen })) n 0 None first.events event)
            ∙ append_assoc (lane_entries n first) (entry_of (Some (record { client = first.client; listen = first.listen })) n (0 + length first.events) (last_of None first.events) event ∷ []) (lanes_entries (n + 1) lanes);
      }),
)
gains_event n (first ∷ lanes) (suc number) lane event there =
    let rest = gains_event (n + 1) lanes number lane event there in
    (rest.0, gains_behind (lanes_entries (n + 1) lanes) (lanes_entries (n + 1) (with_event number event lanes)) (lane_entries n first) _ rest.1)

pub placing_cons : (e : Entry) (es : List Entry) → placing_count (e ∷ es) ≡ one_if (places_one e.event) + placing_count es
placing_cons e es = sum_by-cons (λ (x : Entry). one_if (places_one x.event)) e es

pub placing_append : (xs ys : List Entry) → placing_count (xs ++ ys) ≡ placing_count xs + placing_count ys
placing_append xs ys = sum_by-append (λ (x : Entry). one_if (places_one x.event)) xs ys

placing_more : (old new : List Entry) (e : Entry) → Gains old new e → placing_count new ≡ placing_count old + one_if (places_one e.event)
placing_more old new e gains =
    let was = ap placing_count gains.was ∙ placing_append gains.before gains.behind in
    let is = ap placing_count gains.is ∙ placing_append gains.before (e ∷ gains.behind) in
    omega (arith, was, is, placing_cons e gains.behind)

-- what is kept stays sound as an entry more comes
pub sound_more : (taken : Taken) (old new : Growing) (e : Entry) → Gains (listed old.lanes.items old.drops) (listed new.lanes.items new.drops) e
    → e.at.key ≡ key_of e.event
    → (new.clean ≡ true → (old.clean ≡ true) × Takes taken (key_at old.keys) e.pair e.last e.event (key_at new.keys))
    → new.count ≡ min (old.count + one_if (places_one e.event)) 4294967295
    → IsSound taken old → IsSound taken new
sound_more taken old new e gains at takes count sound = record {
  clean = λ clean.
      let taking = takes clean in
      subst (IsClean taken (key_at new.keys)) (sym gains.is)
      (clean_more taken (key_at old.keys) (key_at new.keys) gains.before gains.behind e
      (subst (IsClean taken (key_at old.keys)) gains.was (sound.clean taking.0)) taking.1 at);
  counted = let more = placing_more _ _ e gains in omega (arith, count, sound.counted, more);
}

-- an event more
pub sound_event : (taken : Taken) (old new : Growing) (number : ℕ) (lane : CertLane) (event : Event) → slice_get old.lanes.items number ≡ Some lane
    → new.lanes.items ≡ with_event number event old.lanes.items → new.drops ≡ old.drops
    → (new.clean ≡ true → (old.clean ≡ true) × Takes taken (key_at old.keys) (Some (record { client = lane.client; listen = lane.listen })) (last_key lane.events) event (key_at new.keys))
    → new.count ≡ min (old.count + one_if (places_one event)) 4294967295
    → IsSound taken old → IsSound taken new
sound_event taken old new number lane event there lanes drops takes count sound =
    let gained = gains_event 0 old.lanes.items number lane event there in
    let size : length (with_event number event old.lanes.items) ≡ length old.lanes.items = same_length old.lanes.items number event in
    let all = gains_before _ _ (drop_entries (length old.lanes.items) old.drops) _ gained.1 in
    let same : listed new.lanes.items new.drops ≡ lanes_entries 0 (with_event number event old.lanes.items) ++ drop_entries (length old.lanes.items) old.drops =
    ap (λ (ls : List CertLane). listed ls new.drops) lanes
    ∙ ap (λ (ds : List CertDrop). listed (with_event number event old.lanes.items) ds) drops
    ∙ ap (λ (n : ℕ). lanes_entries 0 (with_event number event old.lanes.items) ++ drop_entries n old.drops) size in
    sound_more taken old new _ (record { before = all.before; behind = all.behind; was = all.was; is = same ∙ all.is }) refl
    (λ clean. let taking = takes clean in (taking.0, subst (λ (k : Option Key). Takes taken (key_at old.keys) (Some (record { client = lane.client; listen = lane.listen })) k event (key_at new.keys)) (sym (last_same lane.events)) taking.1))
    count sound
  where
    same_length : (lanes : List CertLane) (number : ℕ) (event : Event) → length (with_event number event lanes) ≡ length lanes
    same_length [] number event = refl
    same_length (lane ∷ lanes) zero event = refl
    same_length (lane ∷ lanes) (suc number) event = let rest = same_length lanes number event in omega (arith, rest)

-- the key of the last drop
last_drop : (drops : List CertDrop) → last_of None (map arrival_of drops) ≡ option_map (λ (d : CertDrop). d.key) (slice_get drops (length drops - 1))
last_drop drops =
    last_same (map arrival_of drops)
    ∙ ap (λ (n : ℕ). option_map key_of (slice_get (map arrival_of drops) (n - 1))) (length-map drops arrival_of)
    ∙ ap (option_map key_of) (slice_get-map arrival_of drops (length drops - 1))
    ∙ key_in (slice_get drops (length drops - 1))
  where
    key_in : (o : Option CertDrop) → option_map key_of (option_map arrival_of o) ≡ option_map (λ (d : CertDrop). d.key) o
    key_in None = refl
    key_in (Some d) = refl

-- a drop more
pub sound_drop : (taken : Taken) (old new : Growing) (dropped : CertDrop) → new.lanes.items ≡ old.lanes.items → new.drops ≡ old.drops ++ dropped ∷ []
    → (new.clean ≡ true → (old.clean ≡ true) × Takes taken (key_at old.keys) None (option_map (λ (d : CertDrop). d.key) (slice_get old.drops (length old.drops - 1))) (arrival_of dropped) (key_at new.keys))
    → new.count ≡ min (old.count + one_if (places_one (arrival_of dropped))) 4294967295
    → IsSound taken old → IsSound taken new
sound_drop taken old new dropped lanes drops takes count sound =
    let number = length old.lanes.items in
    let events = map arrival_of old.drops in
    let pushed : drop_entries number (old.drops ++ dropped ∷ []) ≡ drop_entries number old.drops ++ next_entry None number events (arrival_of dropped) ∷ [] =
    ap (entries_from None number 0 None) (map-append arrival_of old.drops (dropped ∷ [])) ∙ entries_push None number 0 None events (arrival_of dropped) in
    let gains : Gains (listed old.lanes.items old.drops) (listed new.lanes.items new.drops) (next_entry None number events (arrival_of dropped)) = record {
      before = listed old.lanes.items old.drops;
      behind = [];
      was = sym (append-nil (listed old.lanes.items old.drops));
      is = ap (λ (ls : List CertLane). listed ls new.drops) lanes ∙ ap (λ (ds : List CertDrop). listed old.lanes.items ds) drops
          ∙ ap (λ es. lanes_entries 0 old.lanes.items ++ es) pushed
          ∙ sym (append_assoc (lanes_entries 0 old.lanes.items) (drop_entries number old.drops) (next_entry None number events (arrival_of dropped) ∷ []));
    } in
    sound_more taken old new _ gains refl
    (λ clean. let taking = takes clean in (taking.0, subst (λ (k : Option Key). Takes taken (key_at old.keys) None k (arrival_of dropped) (key_at new.keys)) (sym (last_drop old.drops)) taking.1))
    count sound

-- the number of the lane behind which drops stand tells nothing of them
fine_at : (taken : Taken) (noted : SightId → Option Key) (n m place : ℕ) (last : Option Key) (events : List Event)
    → All (IsFine taken noted) (entries_from None n place last events) → All (IsFine taken noted) (entries_from None m place last events)
fine_at taken noted n m place last [] all = All-nil (IsFine taken noted)
fine_at taken noted n m place last (event ∷ events) all =
    let first = All-head (IsFine taken noted) (entry_of None n place last event) (entries_from None n (place + 1) (Some (key_of event)) events) all in
    let rest = All-tail (IsFine taken noted) (entry_of None n place last event) (entries_from None n (place + 1) (Some (key_of event)) events) all in
    All-cons (IsFine taken noted) (entry_of None m place last event) (entries_from None m (place + 1) (Some (key_of event)) events)
    (record { own = first.own; told = first.told }) (fine_at taken noted n m (place + 1) (Some (key_of event)) events rest)

sum_at : (f : Event → ℕ) (n m place : ℕ) (last : Option Key) (events : List Event)
    → sum_by (λ (e : Entry). f e.event) (entries_from None n place last events) ≡ sum_by (λ (e : Entry). f e.event) (entries_from None m place last events)
sum_at f n m place last [] = refl
sum_at f n m place last (event ∷ events) =
    let rest = sum_at f n m (place + 1) (Some (key_of event)) events in
    let one = sum_by-cons (λ (e : Entry). f e.event) (entry_of None n place last event) (entries_from None n (place + 1) (Some (key_of event)) events) in
    let other = sum_by-cons (λ (e : Entry). f e.event) (entry_of None m place last event) (entries_from None m (place + 1) (Some (key_of event)) events) in
    omega (arith, rest, one, other)

clean_at : (taken : Taken) (noted : SightId → Option Key) (es : List Entry) (n m : ℕ) (drops : List CertDrop) → IsClean taken noted (es ++ drop_entries n drops)
    → IsClean taken noted (es ++ drop_entries m drops)
clean_at taken noted es n m drops clean = record {
  fine = All-append (IsFine taken noted) es (drop_entries m drops) (all_left (IsFine taken noted) es (drop_entries n drops) clean.fine)
      (fine_at taken noted n m 0 None (map arrival_of drops) (all_right (IsFine taken noted) es (drop_entries n drops) clean.fine));
  once = λ s. omega (
    arith,
    clean.once s,
    times_append es (drop_entries n drops) s,
    times_append es (drop_entries m drops) s,
    sum_at (λ (event : Event). one_if (places event s)) n m 0 None (map arrival_of drops),
  );
  order = clean.order;
}

-- a lane more, without events
pub sound_lane : (taken : Taken) (old new : Growing) (pair : Addr × Addr) → new.lanes.items ≡ old.lanes.items ++ empty_lane pair ∷ [] → new.drops ≡ old.drops
    → new.keys ≡ old.keys → new.clean ≡ old.clean → new.count ≡ old.count
    → IsSound taken old → IsSound taken new
sound_lane taken old new pair lanes drops keys clean count sound =
    let before = lanes_entries 0 old.lanes.items in
    let n = length old.lanes.items in
    let m = length new.lanes.items in
    let same : listed new.lanes.items new.drops ≡ before ++ drop_entries m old.drops =
    ap (λ (ds : List CertDrop). listed new.lanes.items ds) drops
    ∙ ap (λ es. es ++ drop_entries m old.drops) (ap (lanes_entries 0) lanes ∙ lanes_push 0 old.lanes.items (empty_lane pair) ∙ append-nil before) in
    record {
      clean = λ is.
          subst (λ ks. IsClean taken (key_at ks) (listed new.lanes.items new.drops)) (sym keys)
          (subst (IsClean taken (key_at old.keys)) (sym same) (clean_at taken (key_at old.keys) before n m old.drops (sound.clean (sym clean ∙ is))));
      counted = count ∙ sound.counted ∙ ap (λ (k : ℕ). min k 4294967295)
          (let at = sum_at (λ (event : Event). one_if (places_one event)) n m 0 None (map arrival_of old.drops) in
          placing_append before (drop_entries n old.drops) ∙ ap (λ (k : ℕ). placing_count before + k) at ∙ sym (placing_append before (drop_entries m old.drops)) ∙ ap placing_count (sym same));
    }

-- the lanes, as an event is added in place
pub set_event : (lanes : List CertLane) (number : ℕ) (lane : CertLane) (event : Event) → number < length lanes → lane ≡ get_or lanes number lane
    → set lanes number (record { events = lane.events ++ event ∷ []; client = lane.client; listen = lane.listen }) ≡ with_event number event lanes
set_event [] number lane event within is = absurd (omega (arith, within))
set_event (first ∷ lanes) zero lane event within is = rw is refl
set_event (first ∷ lanes) (suc number) lane event within is = ap (λ ls. first ∷ ls) (set_event lanes number lane event (omega (arith, within)) is)

pub lane_there : (lanes : List CertLane) (number : ℕ) → number < length lanes → (lane : CertLane) × (slice_get lanes number ≡ Some lane)
lane_there [] number within = absurd (omega (arith, within))
lane_there (lane ∷ lanes) zero within = (lane, refl)
lane_there (lane ∷ lanes) (suc number) within = lane_there lanes number (omega (arith, within))

-- an event that was taken behind the end of its lane, and then added
pub sound_taken : (taken : Taken) (old mid new : Growing) (number : ℕ) (end : LaneEnd) (event : Event) → number < length old.lanes.items
    → ((lane : CertLane) → slice_get old.lanes.items number ≡ Some lane → end ≡ record { pair = Some (record { client = lane.client; listen = lane.listen }); last = last_key lane.events })
    → (mid.clean ≡ true → (old.clean ≡ true) × Takes taken (key_at old.keys) end.pair end.last event (key_at mid.keys))
    → mid.count ≡ min (old.count + one_if (places_one event)) 4294967295 → mid.lanes ≡ old.lanes → mid.drops ≡ old.drops
    → new.lanes.items ≡ with_event number event mid.lanes.items → new.drops ≡ mid.drops → new.keys ≡ mid.keys → new.clean ≡ mid.clean → new.count ≡ mid.count
    → IsSound taken old → IsSound taken new
sound_taken taken old mid new number end event within at takes count lanes drops lanes_now drops_now keys_now clean_now count_now sound =
    let found = lane_there old.lanes.items number within in
    sound_event taken old new number found.0 event found.1
    (lanes_now ∙ ap (λ ls. with_event number event ls.items) lanes) (drops_now ∙ drops)
    (λ is.
    let taking = takes (sym clean_now ∙ is) in (
      taking.0,
      subst (λ ks. Takes taken (key_at old.keys) (Some (record { client = found.0.client; listen = found.0.listen })) (last_key found.0.events) event (key_at ks)) (sym keys_now)
          (subst (λ (e : LaneEnd). Takes taken (key_at old.keys) e.pair e.last event (key_at mid.keys)) (at found.0 found.1) taking.1),
    ))
    (count_now ∙ count) sound

-- the same of a drop
pub sound_dropped : (taken : Taken) (old mid new : Growing) (end : LaneEnd) (dropped : CertDrop)
    → end ≡ record { pair = None; last = option_map (λ (d : CertDrop). d.key) (slice_get old.drops (length old.drops - 1)) }
    → (mid.clean ≡ true → (old.clean ≡ true) × Takes taken (key_at old.keys) end.pair end.last (arrival_of dropped) (key_at mid.keys))
    → mid.count ≡ min (old.count + one_if (places_one (arrival_of dropped))) 4294967295 → mid.lanes ≡ old.lanes → mid.drops ≡ old.drops
    → new.lanes ≡ mid.lanes → new.drops ≡ mid.drops ++ dropped ∷ [] → new.keys ≡ mid.keys → new.clean ≡ mid.clean → new.count ≡ mid.count
    → IsSound taken old → IsSound taken new
sound_dropped taken old mid new end dropped at takes count lanes drops lanes_now drops_now keys_now clean_now count_now sound =
    sound_drop taken old new dropped
    (ap (λ ls. ls.items) (lanes_now ∙ lanes)) (drops_now ∙ ap (λ ds. ds ++ dropped ∷ []) drops)
    (λ is.
    let taking = takes (sym clean_now ∙ is) in (
      taking.0,
      subst (λ ks. Takes taken (key_at old.keys) None (option_map (λ (d : CertDrop). d.key) (slice_get old.drops (length old.drops - 1))) (arrival_of dropped) (key_at ks)) (sym keys_now)
          (subst (λ (e : LaneEnd). Takes taken (key_at old.keys) e.pair e.last (arrival_of dropped) (key_at mid.keys)) at taking.1),
    ))
    (count_now ∙ count) sound
