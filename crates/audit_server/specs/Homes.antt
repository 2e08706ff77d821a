-- The lane of a sighting, and the client of a lane.
use Rattle.std.specs.Prelude.{ℕ, ◌≡◌, Option, Some, List}
use Rattle.std.specs.List.{AllByRecursion}
use Rattle.audit_model.specs.declared.pair.Pair.{Pair}
use Rattle.audit_model.specs.declared.sighting.SightId.{SightId}
use Rattle.audit_server.specs.Placed.{Placed}
use Rattle.audit_server.specs.Step.{Move, In, Act, Out}

-- each sighting that the move names is of this lane
abbrev pub NamesAtHome : (SightId → ℕ) → ℕ → Move → Type 0
NamesAtHome home lane (In s) = home s ≡ lane
NamesAtHome home lane (Act c s t) = (home s ≡ lane) × (home t ≡ lane)
NamesAtHome home lane (Out t) = home t ≡ lane

-- each move is in the lane of the sightings that it names
abbrev pub StandAtHome : (SightId → ℕ) → List Placed → Type 0
StandAtHome home steps = AllByRecursion (λ e. NamesAtHome home e.at.lane e.move) steps

-- all moves that name a sighting are in one lane
abbrev pub InOneLane : List Placed → Type 0
InOneLane steps = (home : SightId → ℕ) × StandAtHome home steps

-- an act is in its arrival's lane, and a departure in the lane of its act
abbrev pub Meets : Placed → Placed → Type 0
Meets act other = (c : Pair) (s t : SightId) → act.move ≡ Act c s t → (other.move ≡ In s → other.at.lane ≡ act.at.lane) × (other.move ≡ Out t → other.at.lane ≡ act.at.lane)

abbrev pub MeetInLanes : List Placed → Type 0
MeetInLanes events = AllByRecursion (λ act. AllByRecursion (Meets act) events) events

-- an act is of its lane's client; the drops' lane has none
abbrev pub IsOfPair : (ℕ → Option Pair) → ℕ → Move → Type 0
IsOfPair pairs lane (In s) = Unit {0}
IsOfPair pairs lane (Act c s t) = pairs lane ≡ Some c
IsOfPair pairs lane (Out t) = Unit {0}

abbrev pub AreOfPairs : (ℕ → Option Pair) → List Placed → Type 0
AreOfPairs pairs steps = AllByRecursion (λ e. IsOfPair pairs e.at.lane e.move) steps

-- no two lanes are of one client at one listen address
abbrev pub AreDistinct : (ℕ → Option Pair) → Type 0
AreDistinct pairs = (i j : ℕ) (c : Pair) → pairs i ≡ Some c → pairs j ≡ Some c → i ≡ j
