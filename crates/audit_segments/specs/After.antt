-- The cut after the first steps of a run.
use Rattle.std.specs.Prelude.{ℕ, ◌+◌, ◌==◌, if◌then◌else◌, Option, Some, None, List, [], ◌∷◌, false, max}
use Rattle.std.specs.List.{fold}
use Rattle.audit_model.specs.declared.sighting.SightId.{SightId}
use Rattle.audit_sightings.specs.Intake.{Taken}
use Rattle.audit_rules.specs.Keys.{KeyFor}
use Rattle.audit_server.specs.Placing.{placed}
use Rattle.audit_server.specs.State.{at_first, after}
use Rattle.audit_server.specs.Step.{Step}
use Rattle.audit_whole.specs.CaptureRun.{rules_for}
use Rattle.audit_segments.specs.Cut.{Cut}
use Rattle.audit_segments.specs.Kept.{kept_state}

abbrev pub next_index_by : ℕ → Option SightId → ℕ → ℕ
next_index_by iface None n = n
next_index_by iface (Some s) n = if s.iface == iface then max (s.index + 1) n else n

-- the index after the last sighting of the interface that the steps place; 0 if they place none
abbrev pub next_index : List Step → ℕ → ℕ
next_index [] iface = 0
next_index (e ∷ es) iface = next_index_by iface (placed e.move) (next_index es iface)

-- the state to which the steps lead from the empty table, reduced to what is kept, with how many
-- sightings of each interface they place
abbrev pub cut_after : Taken → KeyFor → List Step → Cut
cut_after taken key_for steps = record {
  state = kept_state taken.policy.hold taken.policy.grace (fold (after (rules_for taken key_for)) at_first steps);
  placed = next_index steps;
  excluded = λ _. false;
}
