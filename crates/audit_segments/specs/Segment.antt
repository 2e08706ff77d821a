-- A segment of a run: steps that lead from one cut to the next.
use Rattle.std.specs.Prelude.{ℕ, ◌≡◌, ◌≤◌, ◌&&◌, true, false, not, if◌then◌else◌, Option, Some, List, [], ◌∷◌, ◌++◌, is_some, IsSomeAnd}
use Rattle.std.specs.List.{AllByRecursion, fold}
use Rattle.audit_model.specs.declared.policy.Policy.{Policy}
use Rattle.audit_model.specs.declared.sighting.SightId.{SightId}
use Rattle.audit_model.specs.declared.sighting.Sighting.{Sighting}
use Rattle.audit_model.specs.declared.sighting.Side.{Side}
use Rattle.audit_model.specs.declared.sighting.Side.TheVariants.{Arrives, Leaves}
use Rattle.audit_rules.specs.Keys.{KeyFor}
use Rattle.audit_server.specs.Captured.{rules_of}
use Rattle.audit_server.specs.Placing.{times_placed, KeepOrder}
use Rattle.audit_server.specs.Run.{RunFrom}
use Rattle.audit_server.specs.State.{after}
use Rattle.audit_server.specs.Step.{Step, Move, In, Act, Out}
use Rattle.audit_segments.specs.Alike.{AreAlike, is_placed}
use Rattle.audit_segments.specs.Cut.{Cut, Extends, MayName}

-- the sightings by which a segment is judged, with their ids among all captured ones
abbrev pub View : Type 0
View = SightId → Option Sighting

-- the view has the sighting, with that direction, and the moment is in its window
abbrev pub IsSeenIn : View → Side → SightId → ℕ → Type 0
IsSeenIn view side sight moment = IsSomeAnd (view sight) (λ s. (s.side ≡ side) × (s.lo ≤ moment) × (moment ≤ s.hi))

abbrev pub MayBePlacedIn : View → ℕ → Move → Type 0
MayBePlacedIn view moment (In s) = IsSeenIn view Arrives s moment
MayBePlacedIn view moment (Act c s t) = Unit {0}
MayBePlacedIn view moment (Out t) = IsSeenIn view Leaves t moment

-- how often the steps between two cuts have to place a sighting: once if the view has it, it is not
-- excluded, and the new cut has it placed and the old one has not; otherwise never
abbrev pub due : View → Cut → Cut → SightId → ℕ
due view old new s = if (is_some (view s) && not (new.excluded s)) && (not (is_placed old.placed s) && is_placed new.placed s) then 1 else 0

-- From the old cut's state the steps are a run of the server over the sightings of the view. They
-- place what is due, each sighting in its window and each interface in its order. They name no
-- sighting that the old cut excludes, and no act sends a departure that the old cut has placed. The
-- state to which they lead is alike to the new cut's.
pub record IsSegment (policy : Policy) (key_for : KeyFor) (view : View) (old : Cut) (steps : List Step) (new : Cut) : Type 0 where
  pub placed : (s : SightId) → times_placed s steps ≡ due view old new s
  pub seen : AllByRecursion (λ (e : Step). MayBePlacedIn view e.moment e.move) steps
  pub order : KeepOrder steps
  pub names : AllByRecursion (λ (e : Step). MayName old e.move) steps
  pub runs : RunFrom (rules_of policy key_for view) old.state steps
  pub leads : AreAlike policy.hold policy.grace new.placed new.excluded (fold (after (rules_of policy key_for view)) old.state steps) new.state
  pub extends : Extends old new

-- ---- many segments, each judged by the sightings that it needs

-- A segment as it was judged: the sightings, the steps, and the cut to which they lead.
pub record Segment : Type 0 where
  pub view : View
  pub steps : List Step
  pub cut : Cut

-- the view has only captured sightings, and has each captured sighting that is placed between the
-- two cuts and not excluded
pub record IsViewOf (all view : View) (old new : Cut) : Type 0 where
  pub there : (s : SightId) (x : Sighting) → view s ≡ Some x → all s ≡ Some x
  pub due : (s : SightId) → new.excluded s ≡ false → is_placed old.placed s ≡ false → is_placed new.placed s ≡ true → is_some (view s) ≡ is_some (all s)

-- each segment begins at the cut to which the one before it leads
abbrev pub AreSegments : Policy → KeyFor → View → Cut → List Segment → Cut → Type 0
AreSegments policy key_for all old [] last = last ≡ old
AreSegments policy key_for all old (segment ∷ segments) last =
    (IsSegment policy key_for segment.view old segment.steps segment.cut × IsViewOf all segment.view old segment.cut) × AreSegments policy key_for all segment.cut segments last

abbrev pub all_steps : List Segment → List Step
all_steps [] = []
all_steps (segment ∷ segments) = segment.steps ++ all_steps segments
