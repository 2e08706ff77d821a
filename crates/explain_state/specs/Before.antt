-- The state after the events of a lane before an index.
use Rattle.std.specs.Prelude.{◌≡◌, ℕ, zero, suc, Some, slice_get}
use Rattle.audit_lane.specs.Content.{Content, Happening}
use Rattle.audit_lane.specs.Kept.{Kept}
use Rattle.audit_lane.specs.After.{after}
use Rattle.audit_lane.specs.Faults.{IsRight}
use Rattle.audit_lane.specs.Judged.{at_start, terms_of}
use Rattle.audit_lane.specs.Seen.{SameKept}

-- the event at an index violates no rule in the state before it, and results in the state after it
pub record Leaves (content : Content) (place : ℕ) (kept : Kept) (then : Kept) : Type 0 where
  pub event : Happening
  pub there : slice_get content.events place ≡ Some event
  pub right : IsRight (terms_of content) kept event
  pub left : SameKept then (after (terms_of content) place kept event)

-- the state after the events before an index, none of which violates a rule
abbrev pub IsBefore : Content → ℕ → Kept → Type 0
IsBefore content zero kept = SameKept kept (at_start content)
IsBefore content (suc place) kept = (earlier : Kept) × IsBefore content place earlier × Leaves content place earlier kept
