-- The state of a live audit while captures grow, and the effect of an advance.
use Rattle.std.specs.Prelude.{ℕ, ◌≡◌, ◌≤◌, List, [], ◌∷◌, Option, Some, None, IfSome, length}
use Rattle.audit_model.specs.declared.certificate.Certificate.{Certificate}
use Rattle.audit_model.specs.declared.extension.Extension.{Extension}
use Rattle.audit_model.specs.declared.verdict.Breach.{Breach}
use Rattle.audit_rules.specs.Keys.{KeyFor}
use Rattle.audit_sightings.specs.Intake.{Taken}
use Rattle.audit_placement.specs.Entries.{entries}
use Rattle.audit_order.specs.Grown.{Extends, Fits}
use Rattle.audit_order.specs.Growing.{placing_count}
use Rattle.audit_server.specs.Placed.{Placed}
use Rattle.audit_whole.specs.Glued.{lanes_from}
use Rattle.audit_whole.specs.CaptureRun.{rules_for}
use Rattle.audit_prefix.specs.Advance.{StandsByLast, IsInTurn}
use Rattle.audit_prefix.specs.Breaches.{LiveBreach}
use Rattle.audit_prefix.specs.Walk.{nothing_yet, remembered_all}
use Rattle.std.specs.Prelude.{◌+◌}

-- the intake, the certificate of all extensions so far, and the last horizon
pub record Standing : Type 0 where
  pub taken : Taken
  pub certificate : Certificate
  pub last : Option ℕ

-- the last horizon, 0 before the first
abbrev pub horizon_of : Option ℕ → ℕ
horizon_of None = 0
horizon_of (Some last) = last

-- the departures that the lanes owe
abbrev pub owed_in : Taken → KeyFor → List (List Placed) → ℕ
owed_in taken key_for [] = 0
owed_in taken key_for (lane ∷ lanes) = length (remembered_all (rules_for taken key_for) nothing_yet lane).owing + owed_in taken key_for lanes

-- it has no breach, and everything is at or before the last horizon
pub record IsGoing (key_for : KeyFor) (live : Standing) : Type 0 where
  pub none : LiveBreach live.taken key_for live.certificate None
  pub by_last : StandsByLast live.last live.certificate

-- ---- when an advance is refused, in this order

abbrev pub IsNotLater : Standing → ℕ → Type 0
IsNotLater live horizon = IfSome live.last (λ last. horizon ≤ last) × ((live.last ≡ None) → ⊥)

abbrev pub DoesNotFit : Standing → Extension → Type 0
DoesNotFit live extension = ¬ Fits live.certificate extension

abbrev pub IsOutOfTurn : Standing → ℕ → Extension → Type 0
IsOutOfTurn live horizon extension = ¬ IsInTurn live.last horizon extension

-- none of these refusals
pub record MayAdvance (live : Standing) (horizon : ℕ) (extension : Extension) : Type 0 where
  pub later : ¬ IsNotLater live horizon
  pub fits : Fits live.certificate extension
  pub in_turn : IsInTurn live.last horizon extension

-- with the extension it shows this breach, or none
pub record Shows (key_for : KeyFor) (live : Standing) (extension : Extension) (found : Option Breach) : Type 0 where
  pub certificate : Certificate
  pub extends : Extends live.certificate extension certificate
  pub reports : LiveBreach live.taken key_for certificate found

-- the state after an accepted advance
pub record Advances (key_for : KeyFor) (old : Standing) (horizon : ℕ) (extension : Extension) (new : Standing) : Type 0 where
  pub taken : new.taken ≡ old.taken
  pub last : new.last ≡ Some horizon
  pub extends : Extends old.certificate extension new.certificate
  pub none : LiveBreach new.taken key_for new.certificate None

-- the progress that an accepted advance returns: the horizon, and how many sightings are placed,
-- lanes exist and departures are owed
pub record IsProgress (key_for : KeyFor) (live : Standing) (horizon placed lanes owed : ℕ) : Type 0 where
  pub at : live.last ≡ Some horizon
  pub placed_are : placed ≡ placing_count (entries live.certificate)
  pub lanes_are : lanes ≡ length live.certificate.lanes
  pub owed_are : owed ≡ owed_in live.taken key_for (lanes_from 0 live.certificate.lanes)
