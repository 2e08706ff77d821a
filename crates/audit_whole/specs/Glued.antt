-- The one list of moves of a certificate, by moment, tie and lane; the drops count as the lane
-- after the last.
use Rattle.std.specs.Prelude.{ℕ, ◌+◌, Option, Some, None, List, [], ◌∷◌, ◌++◌, length, map, slice_get}
use Rattle.audit_model.specs.declared.certificate.Certificate.{Certificate}
use Rattle.audit_model.specs.declared.certificate.CertLane.{CertLane}
use Rattle.audit_model.specs.declared.event.Event.{Event}
use Rattle.audit_model.specs.declared.event.Event.TheVariants as events
use Rattle.audit_model.specs.declared.pair.Pair.{Pair}
use Rattle.audit_model.specs.Event.{sight_of}
use Rattle.audit_placement.specs.declared.entry.Entry.{Entry}
use Rattle.audit_placement.specs.Entries.{lane_entries, drop_entries, entries}
use Rattle.audit_server.specs.Step.{Step, Move, In, Act, Out}
use Rattle.audit_server.specs.Placed.{Placed, step_of}
use Rattle.audit_server.specs.Glued.{sorted}

-- the move of an event in a lane of this pair; a dropped arrival is `In`
abbrev pub move_of : Option Pair → Event → Move
move_of None event = In (sight_of event)
move_of (Some pair) (events.In sight key) = In sight
move_of (Some pair) (events.Act sight gives key) = Act pair sight gives
move_of (Some pair) (events.Out sight key) = Out sight

abbrev pub placed_of : Entry → Placed
placed_of entry = record { at = entry.at; move = move_of entry.pair entry.event }

-- the lanes from that number on
abbrev pub lanes_from : ℕ → List CertLane → List (List Placed)
lanes_from number [] = []
lanes_from number (lane ∷ lanes) = map placed_of (lane_entries number lane) ∷ lanes_from (number + 1) lanes

abbrev pub the_drops : Certificate → List Placed
the_drops certificate = map placed_of (drop_entries (length certificate.lanes) certificate.drops)

abbrev pub by_lane : Certificate → List (List Placed)
by_lane certificate = lanes_from 0 certificate.lanes ++ the_drops certificate ∷ []

-- everything that a certificate places, by lane and place
abbrev pub all_placed : Certificate → List Placed
all_placed certificate = map placed_of (entries certificate)

abbrev pub glued : Certificate → List Placed
glued certificate = sorted (all_placed certificate)

-- and the server's steps, which have neither lanes nor ties
abbrev pub glued_steps : Certificate → List Step
glued_steps certificate = map step_of (glued certificate)

-- the client and the listen address of each lane; the drops have none
abbrev pub pair_of_lane : CertLane → Pair
pair_of_lane lane = record { client = lane.client; listen = lane.listen }

abbrev pub pairs_of : Certificate → ℕ → Option Pair
pairs_of certificate lane = slice_get (map pair_of_lane certificate.lanes) lane
