use Rattle.std.proofs.Common.{◌≡◌, ◌≤◌, length}
use Rattle.audit_lane.specs.Seen.{kept_of}
use Rattle.explain_state.specs.Before.{IsBefore}
use Rattle.explain_state.proofs.lane_at.lane_before.Given as goal

-- the events so far were walked
abbrev pub invariant-events : goal.invariant-events
invariant-events l = (l.lane.lane.input.now ≡ l.fn.input) × (l.place ≤ length l.fn.input.events) × IsBefore l.fn.input l.at (kept_of l.lane.lane.state)
