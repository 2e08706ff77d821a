-- The breach of a certificate so far, and the verdict at the end.
use Rattle.std.specs.Prelude.{◌≡◌, ◌⊎◌, List, [], ◌∷◌, Option, Some, None, Contains}
use Rattle.audit_model.specs.declared.certificate.Certificate.{Certificate}
use Rattle.audit_model.specs.declared.verdict.Breach.{Breach}
use Rattle.audit_model.specs.Clash.{ShowsClash}
use Rattle.audit_model.specs.Least.{IsLeast}
use Rattle.audit_rules.specs.Keys.{KeyFor}
use Rattle.audit_sightings.specs.Intake.{Taken}
use Rattle.audit_placement.specs.Shows.{Shows, ShowsPlaced, ShowsAnUnplaced}
use Rattle.audit_server.specs.Placed.{Placed}
use Rattle.audit_server.specs.Whole.{all_tenancies}
use Rattle.audit_whole.specs.Glued.{lanes_from}
use Rattle.audit_whole.specs.CaptureRun.{rules_for}
use Rattle.audit_model.specs.declared.extension.Extension.{Extension}
use Rattle.audit_model.specs.declared.verdict.Tenancy.{Tenancy}
use Rattle.audit_prefix.specs.Turn.{Turn, turns_of}
use Rattle.audit_prefix.specs.Walk.{nothing_yet, remembered_all, Walks, end_of}

-- the first result, or else the second
abbrev pub OrElse : Option Breach → (Option Breach → Type 0) → Option Breach → Type 0
OrElse (Some first) Else found = found ≡ Some first
OrElse None Else found = Else found

-- the least of the outcomes that are breaches
pub record LeastOf (Each : List (Option Breach) → Type 0) (found : Option Breach) : Type 0 where
  pub outcomes : List (Option Breach)
  pub each : Each outcomes
  pub least : IsLeast (λ breach. Contains outcomes (Some breach)) found

-- the least breach of the lowest of three phases that shows one
abbrev pub InPhases : (Breach → Type 0) → (List (Option Breach) → Type 0) → (Breach → Type 0) → Option Breach → Type 0
InPhases Placement Lanes Tenancies found =
    (first : Option Breach) × IsLeast Placement first × OrElse first (λ rest. (second : Option Breach) × LeastOf Lanes second × OrElse second (IsLeast Tenancies) rest) found

-- an outcome for each lane
abbrev pub ForEach : (List Placed → Option Breach → Type 0) → List (List Placed) → List (Option Breach) → Type 0
ForEach Outcome [] [] = Unit {0}
ForEach Outcome [] (found ∷ others) = ⊥
ForEach Outcome (lane ∷ lanes) [] = ⊥
ForEach Outcome (lane ∷ lanes) (found ∷ others) = Outcome lane found × ForEach Outcome lanes others

module _ (taken : Taken) (key_for : KeyFor) where
  -- the outcome of the lane's walk so far, whatever it owes
  abbrev pub OutcomeSoFar : List Placed → Option Breach → Type 0
  OutcomeSoFar lane found = Walks taken key_for nothing_yet lane found

  -- what it owes at the end
  abbrev pub OutcomeOfEnd : List Placed → Option Breach → Type 0
  OutcomeOfEnd lane found = found ≡ end_of taken key_for (remembered_all (rules_for taken key_for) nothing_yet lane).owing

  -- the first breach that the walk meets, or else what is owed at the end
  abbrev pub Outcome : List Placed → Option Breach → Type 0
  Outcome lane found = ((breach : Breach) × OutcomeSoFar lane (Some breach) × (found ≡ Some breach)) ⊎ (OutcomeSoFar lane None × OutcomeOfEnd lane found)

  -- the breach of the certificate so far: sightings that aren't placed yet and departures that are
  -- owed are none
  abbrev pub LiveBreach : Certificate → Option Breach → Type 0
  LiveBreach certificate found = InPhases (ShowsPlaced taken certificate) (ForEach OutcomeSoFar (lanes_from 0 certificate.lanes)) (ShowsClash (all_tenancies (rules_for taken key_for) (lanes_from 0 certificate.lanes))) found

  -- the breach by which the certificate doesn't conform, if there is one
  abbrev pub IsVerdict : Certificate → Option Breach → Type 0
  IsVerdict certificate found = InPhases (Shows taken certificate) (ForEach Outcome (lanes_from 0 certificate.lanes)) (ShowsClash (all_tenancies (rules_for taken key_for) (lanes_from 0 certificate.lanes))) found

  -- the checks at the end: the least sighting that isn't placed, or else the least act whose
  -- departure never left
  abbrev pub LeftAtTheEnd : Certificate → Option Breach → Type 0
  LeftAtTheEnd certificate found =
      (first : Option Breach) × IsLeast (ShowsAnUnplaced taken certificate) first × OrElse first (LeastOf (ForEach OutcomeOfEnd (lanes_from 0 certificate.lanes))) found

  -- ---- of a turn

  -- the first breach that a lane's walk meets, from the state of the lane
  abbrev pub OutcomeOfTurn : Turn → Option Breach → Type 0
  OutcomeOfTurn turn found = Walks taken key_for (remembered_all (rules_for taken key_for) nothing_yet turn.before) turn.more found

  abbrev pub ForEachTurn : List Turn → List (Option Breach) → Type 0
  ForEachTurn [] [] = Unit {0}
  ForEachTurn [] (found ∷ others) = ⊥
  ForEachTurn (turn ∷ turns) [] = ⊥
  ForEachTurn (turn ∷ turns) (found ∷ others) = OutcomeOfTurn turn found × ForEachTurn turns others

  -- the breach of a turn: of the placement of the certificate with the extension, of each lane's
  -- new events, and of the tenancies that are checked
  abbrev pub IsBreachOfTurn : Certificate → Extension → Certificate → List Tenancy → Option Breach → Type 0
  IsBreachOfTurn old extension new checked found = InPhases (ShowsPlaced taken new) (ForEachTurn (turns_of old extension)) (ShowsClash checked) found
