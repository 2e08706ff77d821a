-- The breaches of placement that a certificate shows: of each entry, of neighbours on an interface,
-- and of sightings that aren't placed.
use Rattle.std.specs.Prelude.{◌≡◌, ◌⊎◌, ℕ, ◌+◌, ◌<◌, false, List, [], ◌∷◌, ◌++◌, length, Contains, Some, None}
use Rattle.std.specs.Ordering.{is_gt}
use Rattle.audit_model.specs.declared.certificate.Certificate.{Certificate}
use Rattle.audit_model.specs.declared.event.At.{At}
use Rattle.audit_model.specs.declared.rule.Rule.TheVariants.{Unplaced, InterfaceOrder}
use Rattle.audit_model.specs.declared.sighting.Sighting.{Sighting}
use Rattle.audit_model.specs.declared.verdict.Breach.{Breach}
use Rattle.audit_model.specs.Breach.{key_cmp}
use Rattle.audit_sightings.specs.Intake.{Taken, interface_at}
use Rattle.audit_placement.specs.declared.entry.Entry.{Entry}
use Rattle.audit_placement.specs.Checks.{IsOneOf, breach_at, checks}
use Rattle.audit_placement.specs.Cuts.{ShowsCut}
use Rattle.audit_placement.specs.Entries.{entries}
use Rattle.audit_placement.specs.FirstPlace.{first_place}

-- a rule that the entry breaks after the earlier ones
abbrev pub ShowsAt : Taken → List Entry → Entry → Breach → Type 0
ShowsAt taken earlier entry = IsOneOf (checks taken earlier entry) entry.at

-- entries in turn, after the earlier ones
abbrev pub ShowsFrom : Taken → List Entry → List Entry → Breach → Type 0
ShowsFrom taken earlier [] breach = ⊥
ShowsFrom taken earlier (entry ∷ later) breach = ShowsAt taken earlier entry breach ⊎ ShowsFrom taken (earlier ++ entry ∷ []) later breach

-- Two neighbours on an interface are placed, and the key of the second is not greater. The breach
-- is at the first place of the second.
pub record ShowsInterfaceOrder (entries : List Entry) (iface count : ℕ) (breach : Breach) : Type 0 where
  pub index : ℕ
  pub before : At
  pub at : At
  pub there : index + 1 < count
  pub first : first_place entries (record { iface = iface; index = index }) ≡ Some before
  pub second : first_place entries (record { iface = iface; index = index + 1 }) ≡ Some at
  pub not_greater : is_gt (key_cmp at.key before.key) ≡ false
  pub told : breach ≡ breach_at at InterfaceOrder (record { iface = iface; index = index + 1 })

-- A sighting isn't placed. The breach is at its stamp, after the last drop.
pub record ShowsUnplaced (entries : List Entry) (lanes drops : ℕ) (row : List Sighting) (breach : Breach) : Type 0 where
  pub sighting : Sighting
  pub there : Contains row sighting
  pub nowhere : first_place entries sighting.id ≡ None
  pub told : breach ≡ breach_at (record { key = record { moment = sighting.stamp; tie = 0 }; lane = lanes; place = drops }) Unplaced sighting.id

-- neighbours of some interface
abbrev pub ShowsOutOfOrder : Taken → List Entry → Breach → Type 0
ShowsOutOfOrder taken entries breach = (iface : ℕ) × ShowsInterfaceOrder entries iface (length (interface_at taken iface)) breach

-- a sighting of some interface
abbrev pub ShowsNowhere : Taken → List Entry → ℕ → ℕ → Breach → Type 0
ShowsNowhere taken entries lanes drops breach = (iface : ℕ) × ShowsUnplaced entries lanes drops (interface_at taken iface) breach

-- of what is placed, whatever isn't
abbrev pub ShowsPlaced : Taken → Certificate → Breach → Type 0
ShowsPlaced taken certificate breach = ShowsFrom taken [] (entries certificate) breach ⊎ ShowsOutOfOrder taken (entries certificate) breach

abbrev pub ShowsAnUnplaced : Taken → Certificate → Breach → Type 0
ShowsAnUnplaced taken certificate breach = ShowsNowhere taken (entries certificate) (length certificate.lanes) (length certificate.drops) breach

-- by the windows of the stamps
abbrev pub ShowsByStamps : Taken → Certificate → Breach → Type 0
ShowsByStamps taken certificate breach = ShowsPlaced taken certificate breach ⊎ ShowsAnUnplaced taken certificate breach

-- and by those that the certificate narrows
abbrev pub Shows : Taken → Certificate → Breach → Type 0
Shows taken certificate breach = ShowsByStamps taken certificate breach ⊎ ShowsCut taken certificate breach
