-- The windows that a certificate narrows by its skews of interfaces.
use Rattle.std.specs.Prelude.{◌≡◌, ◌⊎◌, ℕ, Bool, false, ◌||◌, nat_lt, if◌then◌else◌, List, [], ◌∷◌, Option, Some, None}
use Rattle.audit_model.specs.declared.certificate.CertSkew.{CertSkew}
use Rattle.audit_model.specs.declared.certificate.Certificate.{Certificate}
use Rattle.audit_model.specs.declared.event.At.{At}
use Rattle.audit_model.specs.declared.event.Event.{Event}
use Rattle.audit_model.specs.declared.event.Event.TheVariants.{In, Act, Out}
use Rattle.audit_model.specs.declared.event.Key.{Key}
use Rattle.audit_model.specs.declared.rule.Rule.TheVariants.{OutOfWindow}
use Rattle.audit_model.specs.declared.sighting.SightId.{SightId}
use Rattle.audit_model.specs.declared.sighting.Sighting.{Sighting}
use Rattle.audit_model.specs.declared.verdict.Breach.{Breach}
use Rattle.audit_model.specs.Event.{sight_of}
use Rattle.audit_model.specs.Skews.{skew_of, nanoseconds_of}
use Rattle.audit_model.specs.Window.{first_moment, last_moment}
use Rattle.audit_sightings.specs.Intake.{Taken, sighting_at}
use Rattle.audit_placement.specs.declared.entry.Entry.{Entry}
use Rattle.audit_placement.specs.Checks.{breach_at, is_so}
use Rattle.audit_placement.specs.Entries.{entries}

-- the moment is outside the window around the stamp by a skew in microseconds
abbrev pub is_past : ℕ → ℕ → ℕ → Bool
is_past microseconds stamp moment =
    nat_lt moment (first_moment stamp (nanoseconds_of microseconds)) || nat_lt (last_moment stamp (nanoseconds_of microseconds)) moment

-- nothing is excluded if the certificate has no skew of the interface
abbrev pub is_cut_off : Option ℕ → Key → Sighting → Bool
is_cut_off None key sighting = false
is_cut_off (Some microseconds) key sighting = is_past microseconds sighting.stamp key.moment

abbrev pub is_cut_there : Taken → List CertSkew → SightId → Key → Bool
is_cut_there taken skews sight key = is_so (sighting_at taken sight) (is_cut_off (skew_of skews sight.iface) key)

-- an arrival or a departure at a moment that a skew of its interface excludes
abbrev pub is_cut : Taken → List CertSkew → Event → Bool
is_cut taken skews (In sight key) = is_cut_there taken skews sight key
is_cut taken skews (Act arrival departure key) = false
is_cut taken skews (Out sight key) = is_cut_there taken skews sight key

-- its breach at its place
abbrev pub cut_breach : Taken → List CertSkew → At → Event → Option Breach
cut_breach taken skews at event = if is_cut taken skews event then Some (breach_at at OutOfWindow (sight_of event)) else None

-- one of the entries
abbrev pub ShowsCutIn : Taken → List CertSkew → List Entry → Breach → Type 0
ShowsCutIn taken skews [] breach = ⊥
ShowsCutIn taken skews (entry ∷ entries) breach = (cut_breach taken skews entry.at entry.event ≡ Some breach) ⊎ ShowsCutIn taken skews entries breach

abbrev pub ShowsCut : Taken → Certificate → Breach → Type 0
ShowsCut taken certificate breach = ShowsCutIn taken certificate.skews (entries certificate) breach
