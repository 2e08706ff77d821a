-- The claims about all captured datagrams of the service: to the end, or up to a moment.
use Rattle.std.specs.Prelude.{ℕ, ◌≡◌, ◌≤◌, ◌<◌, ◌&&◌, Bool, true, false, not, if◌then◌else◌, Some, None, List, is_some}
use Rattle.std.specs.List.{AllByRecursion, fold}
use Rattle.audit_model.specs.declared.sighting.SightId.{SightId}
use Rattle.audit_model.specs.declared.sighting.Sighting.{Sighting}
use Rattle.audit_model.specs.Policy.{AreApart}
use Rattle.audit_model.specs.Window.{later}
use Rattle.audit_sightings.specs.Intake.{Taken, sighting_at}
use Rattle.audit_rules.specs.Keys.{KeyFor}
use Rattle.audit_server.specs.Placing.{times_placed, KeepOrder}
use Rattle.audit_server.specs.Run.{RunFrom}
use Rattle.audit_server.specs.State.{at_first, after}
use Rattle.audit_server.specs.Step.{Step}
use Rattle.audit_whole.specs.CaptureRun.{rules_for, MayBePlaced, IsCaptureRun}
use Rattle.audit_whole.specs.Departures.{AreRelayed}
use Rattle.audit_whole.specs.Grounded.{IsGrounded}
use Rattle.audit_segments.specs.Alike.{is_placed}
use Rattle.audit_segments.specs.Cut.{Cut}

-- The headline, of a list of moves. The headline of a certificate is that of its moves.
pub record HeadlineOf (taken : Taken) (key_for : KeyFor) (steps : List Step) : Type 0 where
  pub run : IsCaptureRun taken (rules_for taken key_for) steps
  pub grounded : IsGrounded taken key_for steps
  pub relayed : AreApart taken.policy → AreRelayed taken key_for steps

-- The headline of a list of moves, for all sightings that are not excluded: each of them arrives or
-- leaves once, and none of them is owed at the end.
pub record HeadlineExcept (taken : Taken) (key_for : KeyFor) (excluded : SightId → Bool) (steps : List Step) : Type 0 where
  pub placed : (s : SightId) → times_placed s steps ≡ (if is_some (sighting_at taken s) && not (excluded s) then 1 else 0)
  pub seen : AllByRecursion (λ (e : Step). MayBePlaced taken e.moment e.move) steps
  pub order : KeepOrder steps
  pub runs : RunFrom (rules_for taken key_for) at_first steps
  pub nothing_owed : (t : SightId) → excluded t ≡ false → (fold (after (rules_for taken key_for)) at_first steps).owed t ≡ None
  pub grounded : IsGrounded taken key_for steps
  pub relayed : AreApart taken.policy → AreRelayed taken key_for steps

-- all sightings are placed, and no departure is owed
pub record IsComplete (taken : Taken) (cut : Cut) : Type 0 where
  pub all : (s : SightId) → is_some (sighting_at taken s) ≡ true → is_placed cut.placed s ≡ true
  pub owed : (t : SightId) → cut.excluded t ≡ false → cut.state.owed t ≡ None

-- each sighting whose window ends before the moment is placed, and each owed departure may still
-- leave at the moment
pub record IsJudgedUpTo (taken : Taken) (moment : ℕ) (cut : Cut) : Type 0 where
  pub all : (s : SightId) (x : Sighting) → sighting_at taken s ≡ Some x → x.hi < moment → is_placed cut.placed s ≡ true
  pub owed : (t : SightId) (came : ℕ) → cut.excluded t ≡ false → cut.state.owed t ≡ Some came → moment ≤ later came taken.policy.hold

-- Conforming up to a moment. The steps place the first sightings of each interface, except for the
-- excluded ones, each once, in its window and in order. Each sighting whose window ends before the
-- moment is among them. The steps are a run of the server from an empty table. At their end
-- departures may be owed, if they may still leave at the moment. The run is grounded, and every
-- departure so far was relayed as the headline requires.
pub record ConformsUpTo (taken : Taken) (key_for : KeyFor) (moment : ℕ) (cut : Cut) (steps : List Step) : Type 0 where
  pub all : (s : SightId) (x : Sighting) → sighting_at taken s ≡ Some x → x.hi < moment → is_placed cut.placed s ≡ true
  pub placed : (s : SightId) → times_placed s steps ≡ (if is_some (sighting_at taken s) && not (cut.excluded s) && is_placed cut.placed s then 1 else 0)
  pub seen : AllByRecursion (λ (e : Step). MayBePlaced taken e.moment e.move) steps
  pub order : KeepOrder steps
  pub runs : RunFrom (rules_for taken key_for) at_first steps
  pub owed : (t : SightId) (came : ℕ) → cut.excluded t ≡ false → (fold (after (rules_for taken key_for)) at_first steps).owed t ≡ Some came → moment ≤ later came taken.policy.hold
  pub grounded : IsGrounded taken key_for steps
  pub relayed : AreApart taken.policy → AreRelayed taken key_for steps
