-- The invariant of an audit while no breach was reported.
use Rattle.std.specs.Prelude.{◌≡◌, ℕ, length, Option, vec_len}
use Rattle.audit_model.specs.declared.extension.Extension.{Extension}
use Rattle.audit_model.specs.declared.verdict.Breach.{Breach}
use Rattle.audit_model.specs.Least.{IsLeast}
use Rattle.audit_order.specs.Grown.{Extends}
use Rattle.audit_order.specs.Kept.{Keeps, Stays}
use Rattle.audit_placement.specs.Shows.{ShowsPlaced}
use Rattle.audit_prefix.specs.Live.{IsGoing, Standing}
use Rattle.audit_prefix.specs.Breaches.{OrElse}
use Rattle.audit_rules.specs.Keys.{KeyFor}
use Rattle.audit_sightings.specs.Intake.{AreNumbered, Taken}
use Rattle.audit_live.specs.declared.front.Front.{Front}
use Rattle.audit_live.specs.declared.lanes.LiveLanes.{LiveLanes}
use Rattle.audit_live.specs.Chain.{Chain}
use Rattle.audit_live.specs.Turn.{AddsLane, TakesTurn}
use Rattle.audit_live.specs.Walked.{AreNoted, AreWalked, IsSummed}

-- the state that an intake, a front and the last horizon represent
abbrev pub stands_for : Taken → Front → Option ℕ → Standing
stands_for taken front last = record { taken = taken; certificate = front.placing.certificate; last = last }

-- No breach is shown in what is placed; the places of sightings are known for the intake of an
-- earlier call; each lane of the certificate is walked; the lanes that hold addresses are noted;
-- and the owed departures are summed.
pub record Knows (taken : Taken) (key_for : KeyFor) (last : Option ℕ) (front : Front) : Type 0 where
  pub numbered : AreNumbered taken
  pub going : IsGoing key_for (stands_for taken front last)
  pub before : Taken
  pub stays : Stays before taken
  pub keeps : Keeps before front.placing
  pub lanes : vec_len front.lanes.lanes ≡ length front.placing.certificate.lanes
  pub walked : AreWalked taken key_for front.placing.certificate.lanes front.lanes.lanes.items
  pub noted : AreNoted taken key_for last front.placing.certificate.lanes front.lanes.holders
  pub summed : IsSummed front.lanes

-- the result of a turn for the lanes, with the new ones
abbrev pub TakesWithNew : Taken → KeyFor → Option ℕ → Front → Extension → Front → Option Breach → Type 0
TakesWithNew taken key_for last old extension new found =
    (with_new : LiveLanes) × Chain AddsLane old.lanes.lanes.items extension.lanes with_new.lanes.items
    × (with_new.owed ≡ old.lanes.owed) × (with_new.holders ≡ old.lanes.holders)
    × TakesTurn taken key_for last with_new extension.events new.lanes found

-- The extension is added to the certificate. The result is the least breach in what the whole then
-- places, or else the breach that the lanes show.
pub record TakesExtension (taken : Taken) (key_for : KeyFor) (last : Option ℕ) (old : Front) (extension : Extension) (new : Front) (found : Option Breach) : Type 0 where
  pub extends : Extends old.placing.certificate extension new.placing.certificate
  pub of_placement : Option Breach
  pub least : IsLeast (ShowsPlaced taken new.placing.certificate) of_placement
  pub reports : OrElse of_placement (TakesWithNew taken key_for last old extension new) found
