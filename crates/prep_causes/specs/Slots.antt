-- The records under one number, and under all of them.
use Rattle.std.specs.Prelude.{◌≡◌, ◌⊎◌, ℕ, Bool, true, false, List, length, filter, get_or}
use Rattle.prep_causes.specs.declared.half.Half.{Half}
use Rattle.prep_causes.specs.declared.half.Reach.{Reach}
use Rattle.prep_causes.specs.declared.slot.Slot.{Slot}
use Rattle.prep_causes.specs.declared.slot.Slot.TheVariants.{Empty, One, Pair}
use Rattle.prep_causes.specs.Causing.{IsCause}

-- one of the two is an arrival that can have caused the other one
abbrev pub AreOfOne : Reach → Half → Half → Type 0
AreOfOne reach first second = IsCause reach first second ⊎ IsCause reach second first

-- with a second one it is a pair exactly if one caused the other
abbrev pub BecomesPair : Reach → Half → Half → Slot → Type 0
BecomesPair reach first second Empty = ⊥
BecomesPair reach first second (One kept) = (kept ≡ first) × (AreOfOne reach first second → ⊥)
BecomesPair reach first second Pair = AreOfOne reach first second

abbrev pub Becomes : Reach → Slot → Half → Slot → Type 0
Becomes reach Empty half new = new ≡ One half
Becomes reach (One first) half new = BecomesPair reach first half new
Becomes reach Pair half new = new ≡ Pair

abbrev pub is_pair : Slot → Bool
is_pair Empty = false
is_pair (One half) = false
is_pair Pair = true

-- the number of pairs
abbrev pub pairs_in : List Slot → ℕ
pairs_in slots = length (filter is_pair slots)

-- a count of numbers without records
pub record AreEmpty (slots : List Slot) (count : ℕ) : Type 0 where
  pub len : length slots ≡ count
  pub empty : (number : ℕ) → get_or slots number Empty ≡ Empty
