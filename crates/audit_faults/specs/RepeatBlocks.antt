-- Blocks of places that repeat datagrams.
use Rattle.std.specs.Prelude.{◌≡◌, ℕ, ◌<◌, ◌≤◌, List, Some, slice_get}
use Rattle.audit_model.specs.Window.{later}
use Rattle.audit_model.specs.declared.sighting.Sighting.{Sighting}
use Rattle.audit_sightings.specs.Intake.{Taken}
use Rattle.audit_faults.specs.declared.keyed.Keyed.{Keyed}
use Rattle.audit_faults.specs.declared.repeat_blocks.RepeatBlock.{RepeatBlock}
use Rattle.audit_faults.specs.Repeats.{IsRepeated}

module _ (taken : Taken) (places : List Keyed) where
  -- a place repeats a datagram that is at no place before `since`, and whose window ends no earlier
  -- than `end`
  abbrev pub IsRepeatedSince : ℕ → ℕ → ℕ → Type 0
  IsRepeatedSince since end place = (before : ℕ) × (since ≤ before) × ((repeated : IsRepeated taken places before place) × (end ≤ repeated.earlier.hi))

  -- each place of the block up to this one does, unless its `end` is 0
  pub record IsBlock (place : ℕ) (block : RepeatBlock) : Type 0 where
    pub inside : block.first ≤ place
    pub all : 0 < block.end → (k : ℕ) → block.first ≤ k → k ≤ place → IsRepeatedSince block.since block.end k

  -- each block is right at its place
  abbrev pub AreBlocks : List RepeatBlock → Type 0
  AreBlocks blocks = (place : ℕ) (block : RepeatBlock) → slice_get blocks place ≡ Some block → IsBlock place block

  -- each place from `low` to before `past` repeats a datagram that is at no place before the first,
  -- and whose window ends at most `hold` before that of the departure begins
  abbrev pub AreRepeatedInReach : Sighting → ℕ → ℕ → ℕ → Type 0
  AreRepeatedInReach departure first low past =
      (k : ℕ) → low ≤ k → k < past → (before : ℕ) × (first ≤ before) × ((repeated : IsRepeated taken places before k) × (departure.lo ≤ later repeated.earlier.hi taken.policy.hold))
