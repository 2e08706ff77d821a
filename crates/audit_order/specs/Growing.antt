-- A certificate while it grows, and the notes about it.
use Rattle.std.specs.Prelude.{◌≡◌, ℕ, zero, suc, ◌-◌, Bool, true, false, List, [], ◌∷◌, ◌++◌, Option, length, min, sum_by, option_map, slice_get}
use Rattle.audit_model.specs.declared.certificate.CertLane.{CertLane}
use Rattle.audit_model.specs.declared.certificate.CertDrop.{CertDrop}
use Rattle.audit_model.specs.declared.event.Event.{Event}
use Rattle.audit_model.specs.declared.event.Event.TheVariants.{In, Act, Out}
use Rattle.audit_model.specs.declared.event.Key.{Key}
use Rattle.audit_model.specs.Event.{key_of}
use Rattle.audit_sightings.specs.Intake.{Taken}
use Rattle.audit_placement.specs.declared.entry.Entry.{Entry}
use Rattle.audit_order.specs.declared.growing.Growing.{Growing}
use Rattle.audit_placement.specs.Clean.{IsClean, one_if}
use Rattle.audit_placement.specs.Entries.{lanes_entries, drop_entries}
use Rattle.audit_placement.specs.Keys.{key_at}

-- the entries of lanes and drops, by lane and place
abbrev pub listed : List CertLane → List CertDrop → List Entry
listed lanes drops = lanes_entries 0 lanes ++ drop_entries (length lanes) drops

-- the lanes with one more event in that one
abbrev pub with_event : ℕ → Event → List CertLane → List CertLane
with_event number event [] = []
with_event zero event (lane ∷ lanes) = record { events = lane.events ++ event ∷ []; client = lane.client; listen = lane.listen } ∷ lanes
with_event (suc number) event (lane ∷ lanes) = lane ∷ with_event number event lanes

abbrev pub last_key : List Event → Option Key
last_key events = option_map key_of (slice_get events (length events - 1))

-- an arrival or a departure
abbrev pub places_one : Event → Bool
places_one (In sight key) = true
places_one (Act arrival departure key) = false
places_one (Out sight key) = true

-- the number of entries that are arrivals and departures
abbrev pub placing_count : List Entry → ℕ
placing_count entries = sum_by (λ entry. one_if (places_one entry.event)) entries

-- if it is marked clean it is, and the count is right up to its greatest value
pub record IsSound (taken : Taken) (growing : Growing) : Type 0 where
  pub clean : growing.clean ≡ true → IsClean taken (key_at growing.keys) (listed growing.lanes.items growing.drops)
  pub counted : growing.count ≡ min (placing_count (listed growing.lanes.items growing.drops)) 4294967295
