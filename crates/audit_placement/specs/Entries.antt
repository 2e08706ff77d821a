-- The entries of a certificate, by lane and place: the events of each lane in turn, and then the
-- drops, which count as the lane after the last.
use Rattle.std.specs.Prelude.{ℕ, ◌+◌, List, [], ◌∷◌, ◌++◌, length, map, Option, Some, None, option_map, option_and_then, slice_get}
use Rattle.audit_model.specs.declared.certificate.Certificate.{Certificate}
use Rattle.audit_model.specs.declared.certificate.CertLane.{CertLane}
use Rattle.audit_model.specs.declared.certificate.CertDrop.{CertDrop}
use Rattle.audit_model.specs.declared.event.At.{At}
use Rattle.audit_model.specs.declared.event.Event.{Event}
use Rattle.audit_model.specs.declared.event.Event.TheVariants.{In}
use Rattle.audit_model.specs.declared.event.Key.{Key}
use Rattle.audit_model.specs.Event.{key_of}
use Rattle.audit_placement.specs.declared.entry.Entry.{Entry}
use Rattle.audit_model.specs.declared.pair.Pair.{Pair}
use Rattle.audit_placement.specs.declared.entry.Spot.{Spot}
use Rattle.audit_placement.specs.declared.entry.Spot.TheVariants.{Nowhere, InLane, Dropped}

abbrev pub entry_of : Option Pair → ℕ → ℕ → Option Key → Event → Entry
entry_of pair lane place last event = record { at = record { key = key_of event; lane = lane; place = place }; event = event; pair = pair; last = last }

-- events from a place of their lane on, after an event of that key
abbrev pub entries_from : Option Pair → ℕ → ℕ → Option Key → List Event → List Entry
entries_from pair lane place last [] = []
entries_from pair lane place last (event ∷ events) =
    entry_of pair lane place last event ∷ entries_from pair lane (place + 1) (Some (key_of event)) events

abbrev pub lane_entries : ℕ → CertLane → List Entry
lane_entries number lane = entries_from (Some (record { client = lane.client; listen = lane.listen })) number 0 None lane.events

-- lanes from that number on
abbrev pub lanes_entries : ℕ → List CertLane → List Entry
lanes_entries number [] = []
lanes_entries number (lane ∷ lanes) = lane_entries number lane ++ lanes_entries (number + 1) lanes

-- a dropped arrival is `In`
abbrev pub arrival_of : CertDrop → Event
arrival_of dropped = In dropped.sight dropped.key

abbrev pub drop_entries : ℕ → List CertDrop → List Entry
drop_entries lanes drops = entries_from None lanes 0 None (map arrival_of drops)

abbrev pub entries : Certificate → List Entry
entries certificate = lanes_entries 0 certificate.lanes ++ drop_entries (length certificate.lanes) certificate.drops

-- the place of the event or the drop at that spot, if there is one
abbrev pub at_of : Certificate → Spot → Option At
at_of certificate Nowhere = None
at_of certificate (InLane lane place) =
    option_map (λ event. record { key = key_of event; lane = lane; place = place })
    (option_and_then (λ in_lane. slice_get in_lane.events place) (slice_get certificate.lanes lane))
at_of certificate (Dropped place) =
    option_map (λ dropped. record { key = dropped.key; lane = length certificate.lanes; place = place }) (slice_get certificate.drops place)
