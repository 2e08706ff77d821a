-- The state of each lane, while no breach was reported.
use Rattle.std.specs.Prelude.{◌≡◌, ◌≤◌, ℕ, false, List, length, map, min, Option, Some, slice_get, sum_by}
use Rattle.std.specs.List.{AllByRecursion}
use Rattle.audit_lane.specs.Seen.{kept_of}
use Rattle.audit_model.specs.declared.certificate.CertLane.{CertLane}
use Rattle.audit_model.specs.declared.pair.Pair.{Pair}
use Rattle.audit_placement.specs.Entries.{lane_entries}
use Rattle.audit_prefix.specs.Live.{horizon_of}
use Rattle.audit_prefix.specs.Turn.{KnowsHolders}
use Rattle.audit_prefix.specs.Walk.{Memory, nothing_yet, remembered_all}
use Rattle.audit_rules.specs.Keys.{KeyFor}
use Rattle.audit_server.specs.Placed.{Placed}
use Rattle.audit_sightings.specs.Intake.{Taken}
use Rattle.audit_whole.specs.CaptureRun.{rules_for}
use Rattle.audit_whole.specs.Glued.{pair_of_lane, placed_of}
use Rattle.audit_live.specs.declared.holders.Holders.{Holders}
use Rattle.audit_live.specs.declared.lane.LiveLane.{LiveLane}
use Rattle.audit_live.specs.declared.lanes.LiveLanes.{LiveLanes}
use Rattle.audit_live.specs.Holding.{holder_of}
use Rattle.audit_live.specs.Owed.{Owes}
use Rattle.audit_live.specs.Remembered.{Remembers}

-- The lane's state is that of its walk at a place, this number of its ended tenancies were checked,
-- and it owes what the walk owes.
pub record IsAt (pair : Pair) (number place : ℕ) (m : Memory) (checked : ℕ) (lane : LiveLane) : Type 0 where
  pub keeps : Remembers pair (kept_of lane.state) m
  pub number' : lane.number ≡ number
  pub steps : lane.steps ≡ place
  pub checked' : lane.checked ≡ checked
  pub whole : lane.broken ≡ false
  pub owing : Owes place (kept_of lane.state) m.owing
  pub owes' : lane.owes ≡ min (length m.owing) 4294967295

abbrev pub events_of : ℕ → CertLane → List Placed
events_of number lane = map placed_of (lane_entries number lane)

-- the state of the walk of a lane of the certificate
abbrev pub memory_of : Taken → KeyFor → ℕ → CertLane → Memory
memory_of taken key_for number lane = remembered_all (rules_for taken key_for) nothing_yet (events_of number lane)

-- all events of the lane are walked, and all ended tenancies were checked
abbrev pub IsWalked : Taken → KeyFor → ℕ → CertLane → LiveLane → Type 0
IsWalked taken key_for number lane live =
    IsAt (pair_of_lane lane) number (length lane.events) (memory_of taken key_for number lane) (length (memory_of taken key_for number lane).ended) live

abbrev pub AreWalked : Taken → KeyFor → List CertLane → List LiveLane → Type 0
AreWalked taken key_for lanes walked =
    (number : ℕ) (lane : CertLane) (live : LiveLane) → slice_get lanes number ≡ Some lane → slice_get walked number ≡ Some live → IsWalked taken key_for number lane live

-- the notes of holders are right at the last horizon
abbrev pub AreNoted : Taken → KeyFor → Option ℕ → List CertLane → Holders → Type 0
AreNoted taken key_for last lanes holders =
    (number : ℕ) (lane : CertLane) → slice_get lanes number ≡ Some lane → KnowsHolders (rules_for taken key_for) (horizon_of last) (holder_of holders) (events_of number lane)

-- the departures that all lanes owe are the sum over the lanes, each a number of 32 bits
pub record IsSummed (lanes : LiveLanes) : Type 0 where
  pub sum : lanes.owed ≡ sum_by (λ lane. lane.owes) lanes.lanes.items
  pub few : AllByRecursion (λ lane. lane.owes ≤ 4294967295) lanes.lanes.items
