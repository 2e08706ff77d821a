-- What a watch claims of all that was captured.
use Rattle.std.specs.Prelude.{ℕ, ◌≡◌, Bool, false, List, Option, Some, Result, Ok, Err}
use Rattle.audit_model.specs.declared.sighting.SightId.{SightId}
use Rattle.audit_model.specs.declared.sighting.Sighting.{Sighting}
use Rattle.audit_rules.specs.Keys.{KeyFor}
use Rattle.audit_server.specs.Step.{Step}
use Rattle.audit_sightings.specs.Intake.{Taken, sighting_at}
use Rattle.audit_segments.specs.Cut.{Cut}
use Rattle.audit_segments.specs.Segment.{View, IsSegment}
use Rattle.audit_segments.specs.Shifted.{is_below, shifted_view}
use Rattle.audit_machine.specs.declared.machine.Machine.{Machine}
use Rattle.audit_machine.specs.Carrying.{base_at, absolute_cut_of}
use Rattle.audit_machine.specs.Machine.{cut_of, IsConsistent}
use Rattle.audit_watch.specs.declared.advance_error.AdvanceError.{AdvanceError}
use Rattle.audit_watch.specs.declared.advance_error.AdvanceError.TheVariants as errors
use Rattle.audit_watch.specs.declared.watch.Watch.{Watch}

-- the cut of a watch, with the ids of sightings among all that were captured; none is excluded
abbrev pub watch_cut : Watch → Cut
watch_cut w = absolute_cut_of w.bases.items w.machine (λ _. false)

-- the sightings of a watch's intake, with their ids among all that were captured
abbrev pub watch_view : Watch → Taken → View
watch_view w taken = shifted_view (base_at w.bases.items) (sighting_at taken)

-- what the intake has was captured, under the policy of the watch
pub record AreCaptured (all : Taken) (w : Watch) (taken : Taken) : Type 0 where
  pub policy : all.policy ≡ w.machine.policy
  pub has : (s : SightId) (x : Sighting) → watch_view w taken s ≡ Some x → sighting_at all s ≡ Some x

-- from the bases on, what was captured is what the intake has
pub record AreAllCaptured (all : Taken) (w : Watch) (taken : Taken) : Type 0 where
  pub policy : all.policy ≡ w.machine.policy
  pub same : (s : SightId) → is_below (base_at w.bases.items) s ≡ false → sighting_at all s ≡ watch_view w taken s

-- Some steps are a segment of a run of the server over all that was captured, from the first cut to
-- that of the watch.
abbrev pub LeadsFrom : Taken → KeyFor → Cut → Watch → Type 0
LeadsFrom all key_for first w = (steps : List Step) × IsSegment all.policy key_for (sighting_at all) first steps (watch_cut w)

-- a watch can be used after the error
abbrev pub IsUsable : AdvanceError → Type 0
IsUsable (errors.Refused action refusal) = Unit {0}
IsUsable errors.Behind = ⊥
IsUsable errors.Memory = ⊥

-- the fact holds after success, and after an error after which the watch can be used
abbrev pub IfUsable : Result Unit AdvanceError → Type 0 → Type 0
IfUsable (Ok done) Fact = Fact
IfUsable (Err error) Fact = IsUsable error → Fact

-- Some steps are a segment over what the intake has, from the old machine's cut to the new one's.
pub record Follows (taken : Taken) (key_for : KeyFor) (old new : Machine) : Type 0 where
  pub steps : List Step
  pub segment : IsSegment old.policy key_for (sighting_at taken) (cut_of old (λ _. false)) steps (cut_of new (λ _. false))
  pub consistent : IsConsistent new
  pub policy : new.policy ≡ old.policy
