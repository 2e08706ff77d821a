-- One more arrival or departure.
use Rattle.std.specs.Prelude.{◌≡◌, ◌≢◌, ◌<◌, ◌≤◌, ℕ, length, get_or}
use Rattle.prep_causes.specs.declared.causes.Causes.{Causes}
use Rattle.prep_causes.specs.declared.half.Half.{Half}
use Rattle.prep_causes.specs.declared.slot.Slot.TheVariants.{Empty}
use Rattle.prep_causes.specs.Slots.{Becomes}

-- It is added to the records under its number, if there is such a number. The others stay.
pub record IsAdded (old : Causes) (number : ℕ) (half : Half) (new : Causes) : Type 0 where
  pub reach : new.reach ≡ old.reach
  pub slot : number < length old.slots.items → Becomes old.reach (get_or old.slots.items number Empty) half (get_or new.slots.items number Empty)
  pub unknown : length old.slots.items ≤ number → new ≡ old
  pub others : (other : ℕ) → other ≢ number → get_or new.slots.items other Empty ≡ get_or old.slots.items other Empty
