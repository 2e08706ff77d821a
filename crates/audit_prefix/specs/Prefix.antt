-- The events up to a moment are a prefix of a run that explains the captures.
use Rattle.std.specs.Prelude.{ℕ, ◌+◌, ◌≡◌, ◌≢◌, ◌≤◌, List, [], ◌∷◌, Some}
use Rattle.std.specs.List.{AllByRecursion}
use Rattle.audit_model.specs.declared.certificate.Certificate.{Certificate}
use Rattle.audit_model.specs.declared.sighting.SightId.{SightId}
use Rattle.audit_sightings.specs.Intake.{Taken}
use Rattle.audit_model.specs.declared.verdict.Breach.{Breach}
use Rattle.audit_model.specs.Clash.{ShowsClash}
use Rattle.audit_placement.specs.Shows.{ShowsPlaced}
use Rattle.audit_server.specs.Step.{Step, Move}
use Rattle.audit_server.specs.Rules.{Rules}
use Rattle.audit_server.specs.State.{at_first}
use Rattle.audit_server.specs.Placed.{Placed, Runs}
use Rattle.audit_server.specs.Placing.{placed, times_placed}
use Rattle.audit_server.specs.Whole.{all_tenancies}
use Rattle.audit_whole.specs.Glued.{lanes_from, glued, glued_steps}
use Rattle.audit_whole.specs.CaptureRun.{MayBePlaced}
use Rattle.audit_prefix.specs.Apart.{RunsApart, none_yet}

-- the second doesn't place the sighting right before that of the first
abbrev pub KeepNeighbours : Move → Move → Type 0
KeepNeighbours a b = (s t : SightId) → placed a ≡ Some s → placed b ≡ Some t → s.iface ≡ t.iface → s.index ≢ t.index + 1

-- neighbours on an interface that are both placed are in its order
abbrev pub NeighboursInOrder : List Step → Type 0
NeighboursInOrder [] = Unit {0}
NeighboursInOrder (e ∷ es) = AllByRecursion (λ (d : Step). KeepNeighbours e.move d.move) es × NeighboursInOrder es

-- No sighting is placed twice; each is placed at a moment in its window; neighbours that are both
-- placed keep their order; everything is at or before the horizon; and the events of all lanes in
-- one order are a run, in which departures may be owed.
pub record IsPrefix (taken : Taken) (w : Rules) (certificate : Certificate) (horizon : ℕ) : Type 0 where
  pub once : (sight : SightId) → times_placed sight (glued_steps certificate) ≤ 1
  pub seen : AllByRecursion (λ (e : Step). MayBePlaced taken e.moment e.move) (glued_steps certificate)
  pub order : NeighboursInOrder (glued_steps certificate)
  pub by_then : AllByRecursion (λ (e : Step). e.moment ≤ horizon) (glued_steps certificate)
  pub run : RunsApart w none_yet (glued certificate)

-- each lane is a prefix of a run of a server with its client alone
abbrev pub EachGoes : Rules → List (List Placed) → Type 0
EachGoes w ls = AllByRecursion (Runs w at_first) ls

-- The checks of a growing certificate: what is placed breaks no rule of placement, each lane may go
-- on, and no two tenancies clash.
pub record PassesSoFar (taken : Taken) (w : Rules) (certificate : Certificate) : Type 0 where
  pub placement : (breach : Breach) → ¬ ShowsPlaced taken certificate breach
  pub lanes : EachGoes w (lanes_from 0 certificate.lanes)
  pub tenancies : (breach : Breach) → ¬ ShowsClash (all_tenancies w (lanes_from 0 certificate.lanes)) breach
