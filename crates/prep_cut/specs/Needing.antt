-- Which lines of a plan exclude a departure only together with its arrival, and how far apart the
-- two may be.
use Rattle.std.specs.Prelude.{ℕ, Bool, false, Option, Some, None, slice_get}
use Rattle.audit_model.specs.declared.policy.Policy.{Policy}
use Rattle.prep_causes.specs.declared.half.Reach.{Reach}
use Rattle.prep_cut.specs.declared.plan.Plan.{Plan}
use Rattle.prep_cut.specs.declared.reason.Reason.{Reason}
use Rattle.prep_cut.specs.Caused.{needs_cause}
use Rattle.prep_cut.specs.Edges.{slack}

abbrev pub does_need : Option Reason → Bool
does_need None = false
does_need (Some reason) = needs_cause reason

abbrev pub needs_cause_at : Plan → ℕ → Bool
needs_cause_at plan line = does_need (slice_get plan.lines line)

-- the hold, and twice the greatest skew
abbrev pub reach_of : Policy → Reach
reach_of policy = record { hold = policy.hold; slack = slack policy }
