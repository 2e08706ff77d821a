-- What is excluded by a stated moment alone.
use Rattle.std.specs.Prelude.{ℕ, ⊤, Option, Some, None, slice_get}
use Rattle.prep_cut.specs.declared.plan.Plan.{Plan}
use Rattle.prep_cut.specs.declared.reason.Reason.{Reason}
use Rattle.prep_cut.specs.declared.reason.Reason.TheVariants as reasons

-- the lines of the stated moments
abbrev pub IsMoment : Option Reason → Type 0
IsMoment (Some reasons.BeforeSince) = ⊤
IsMoment (Some reasons.AfterUntil) = ⊤
IsMoment other = ⊥

-- excluded by no line, or by one of those
abbrev pub IsOfMoment : Plan → Option ℕ → Type 0
IsOfMoment plan None = ⊤
IsOfMoment plan (Some line) = IsMoment (slice_get plan.lines line)
