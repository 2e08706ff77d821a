-- When a list of moves is a run of the server that explains the captures.
use Rattle.std.specs.Prelude.{ℕ, ◌≡◌, ◌≤◌, if◌then◌else◌, List, is_some, IsSomeAnd}
use Rattle.std.specs.List.{AllByRecursion}
use Rattle.audit_model.specs.declared.sighting.SightId.{SightId}
use Rattle.audit_model.specs.declared.sighting.Side.{Side}
use Rattle.audit_model.specs.declared.sighting.Side.TheVariants.{Arrives, Leaves}
use Rattle.audit_sightings.specs.Intake.{Taken, sighting_at}
use Rattle.audit_rules.specs.Keys.{KeyFor}
use Rattle.audit_server.specs.Captured.{rules_of}
use Rattle.audit_server.specs.Placing.{times_placed, KeepOrder}
use Rattle.audit_server.specs.Rules.{Rules}
use Rattle.audit_server.specs.Run.{IsRun}
use Rattle.audit_server.specs.Step.{Step, Move, In, Act, Out}

-- the rules of a server with the policy and these keys, over the datagrams that were captured
abbrev pub rules_for : Taken → KeyFor → Rules
rules_for taken key_for = rules_of taken.policy key_for (sighting_at taken)

-- the sighting was captured, has that direction, and the moment is in its window
abbrev pub IsSeen : Taken → Side → SightId → ℕ → Type 0
IsSeen taken side sight moment = IsSomeAnd (sighting_at taken sight) (λ s. (s.side ≡ side) × (s.lo ≤ moment) × (moment ≤ s.hi))

-- an arrival was seen arriving, and a departure was seen leaving
abbrev pub MayBePlaced : Taken → ℕ → Move → Type 0
MayBePlaced taken moment (In s) = IsSeen taken Arrives s moment
MayBePlaced taken moment (Act c s t) = Unit {0}
MayBePlaced taken moment (Out t) = IsSeen taken Leaves t moment

-- Each sighting arrives or leaves once, at a moment in its window; nothing else does; each
-- interface's sightings keep their order; and the list is a run of the server from an empty table
-- that owes nothing at the end.
pub record IsCaptureRun (taken : Taken) (w : Rules) (steps : List Step) : Type 0 where
  pub placed : (sight : SightId) → times_placed sight steps ≡ (if is_some (sighting_at taken sight) then 1 else 0)
  pub seen : AllByRecursion (λ (e : Step). MayBePlaced taken e.moment e.move) steps
  pub order : KeepOrder steps
  pub run : IsRun w steps
