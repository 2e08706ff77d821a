-- Departures that are excluded together with their arrivals.
use Rattle.std.specs.Prelude.{◌≡◌, ◌⊎◌, ◌≤◌, ℕ, suc, true, ⊤, List, [], ◌∷◌, length, get_or, Contains, Option, Some, None}
use Rattle.std.specs.List.{AllByRecursion}
use Rattle.audit_model.specs.declared.sighting.Side.{Side}
use Rattle.audit_model.specs.declared.sighting.Side.TheVariants.{Arrives, Leaves}
use Rattle.audit_model.specs.declared.policy.Policy.{Policy}
use Rattle.audit_model.specs.Policy.{relays}
use Rattle.prep_causes.specs.declared.causes.Causes.{Causes}
use Rattle.prep_causes.specs.declared.half.Half.{Half}
use Rattle.prep_causes.specs.declared.slot.Slot.{Slot}
use Rattle.prep_causes.specs.declared.slot.Slot.TheVariants.{Empty, One, Pair}
use Rattle.prep_causes.specs.Carrying.{IsCarried}
use Rattle.prep_causes.specs.Causing.{IsCause}
use Rattle.prep_causes.specs.Adding.{IsAdded}
use Rattle.prep_cut.specs.declared.datagram.Datagram.{Datagram}
use Rattle.prep_cut.specs.declared.plan.Plan.{Plan}
use Rattle.prep_cut.specs.Datagrams.{datagram_of_block, payload_of_block}
use Rattle.prep_cut.specs.Guard.{own_end, far_end}
use Rattle.prep_cut.specs.Marks.{Marked}
use Rattle.prep_cut.specs.Needing.{needs_cause_at, reach_of}

-- an arrival by any line, a departure by one that needs its arrival
abbrev pub IsExcluded : Plan → Option ℕ → Side → Type 0
IsExcluded plan None side = ⊥
IsExcluded plan (Some line) Arrives = ⊤
IsExcluded plan (Some line) Leaves = needs_cause_at plan line ≡ true

-- the content of a datagram, and its stamp
pub record IsOfDatagram (policy : Policy) (payload : List ℕ) (datagram : Datagram) (half : Half) : Type 0 where
  pub stamp : half.stamp ≡ datagram.stamp
  pub side : half.side ≡ datagram.side
  pub carried : IsCarried policy (relays policy (own_end datagram)) (far_end datagram) payload half.carried

-- the block's datagram is excluded, and has this content
pub record IsHalfOf (plan : Plan) (one : Marked) (half : Half) : Type 0 where
  pub datagram : Datagram
  pub held : datagram_of_block plan.policy one.block ≡ Some datagram
  pub carries : IsOfDatagram plan.policy (payload_of_block one.block) datagram half
  pub excluded : IsExcluded plan one.line datagram.side

-- one of these blocks, with this number
pub record IsNumbered (plan : Plan) (blocks : List Marked) (number : ℕ) (half : Half) : Type 0 where
  pub one : Marked
  pub among : Contains blocks one
  pub number_is : one.cause ≡ Some number
  pub half_is : IsHalfOf plan one half

-- A departure and an arrival with this number are both excluded, and the arrival can have caused
-- the departure.
pub record IsPaired (plan : Plan) (blocks : List Marked) (number : ℕ) : Type 0 where
  pub arrival : Half
  pub departure : Half
  pub arrived : IsNumbered plan blocks number arrival
  pub left : IsNumbered plan blocks number departure
  pub cause : IsCause (reach_of plan.policy) arrival departure

abbrev pub Holds : Plan → List Marked → ℕ → Slot → Type 0
Holds plan blocks number Empty = ⊤
Holds plan blocks number (One half) = IsNumbered plan blocks number half
Holds plan blocks number Pair = IsPaired plan blocks number

-- the records under each number are of these blocks
pub record AreCauses (plan : Plan) (blocks : List Marked) (causes : Causes) : Type 0 where
  pub reach : causes.reach ≡ reach_of plan.policy
  pub slots : (number : ℕ) → Holds plan blocks number (get_or causes.slots.items number Empty)

-- the block is recorded under its number
pub record IsNoted (plan : Plan) (one : Marked) (old new : Causes) : Type 0 where
  pub number : ℕ
  pub half : Half
  pub number_is : one.cause ≡ Some number
  pub half_is : IsHalfOf plan one half
  pub added : IsAdded old number half new

abbrev pub Notes : Plan → Marked → Causes → Causes → Type 0
Notes plan one old new = (new ≡ old) ⊎ IsNoted plan one old new

-- each is more than the one before
abbrev pub Ascend : ℕ → List ℕ → Type 0
Ascend least [] = ⊤
Ascend least (first ∷ others) = (least ≤ first) × Ascend (suc first) others

-- This number of different numbers have a departure with its arrival. No block has two numbers, so
-- each departure has its own arrival.
pub record ArePaired (plan : Plan) (blocks : List Marked) (count : ℕ) : Type 0 where
  pub numbers : List ℕ
  pub different : Ascend 0 numbers
  pub counted : length numbers ≡ count
  pub paired : AllByRecursion (IsPaired plan blocks) numbers
