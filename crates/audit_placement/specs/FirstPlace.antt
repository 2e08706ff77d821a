-- The first place of a sighting, by lane and place.
use Rattle.std.specs.Prelude.{◌≡◌, Bool, false, List, [], ◌∷◌, Option, Some, None, is_some, if◌then◌else◌}
use Rattle.std.specs.BTreeMap.{get}
use Rattle.audit_model.specs.declared.certificate.Certificate.{Certificate}
use Rattle.audit_model.specs.declared.event.At.{At}
use Rattle.audit_model.specs.declared.event.Event.{Event}
use Rattle.audit_model.specs.declared.event.Event.TheVariants.{In, Act, Out}
use Rattle.audit_model.specs.declared.sighting.SightId.{SightId}
use Rattle.audit_model.specs.Breach.{sight_cmp}
use Rattle.audit_model.specs.Sames.{same_sight}
use Rattle.audit_placement.specs.declared.first.FirstPlaces.{FirstPlaces}
use Rattle.audit_placement.specs.declared.entry.Entry.{Entry}
use Rattle.audit_placement.specs.declared.entry.Spot.{Spot}
use Rattle.audit_placement.specs.declared.entry.Spot.TheVariants.{Nowhere}
use Rattle.audit_placement.specs.Entries.{at_of}
use Rattle.audit_placement.specs.Table.{table_at}

-- an arrival or a departure of the sighting; an act places nothing
abbrev pub places : Event → SightId → Bool
places (In placed key) sight = same_sight placed sight
places (Act arrival departure key) sight = false
places (Out placed key) sight = same_sight placed sight

abbrev pub first_place : List Entry → SightId → Option At
first_place [] sight = None
first_place (entry ∷ entries) sight = if places entry.event sight then Some entry.at else first_place entries sight

-- one of the entries places the event's sighting
abbrev pub is_placed : List Entry → Event → Bool
is_placed entries (In sight key) = is_some (first_place entries sight)
is_placed entries (Act arrival departure key) = false
is_placed entries (Out sight key) = is_some (first_place entries sight)

-- the first of the two that exists
abbrev pub either : Option Spot → Option Spot → Spot
either (Some spot) stranger = spot
either None (Some stranger) = stranger
either None None = Nowhere

abbrev pub spot_of : FirstPlaces → SightId → Spot
spot_of first sight = either (table_at first.places.by_interface.items sight) (get sight_cmp first.strangers sight)

-- the first place of the sighting in the certificate, by the notes
abbrev pub noted : Certificate → FirstPlaces → SightId → Option At
noted certificate first sight = at_of certificate (spot_of first sight)

-- the notes have the first place of each sighting
abbrev pub Notes : Certificate → FirstPlaces → List Entry → Type 0
Notes certificate first entries = (sight : SightId) → noted certificate first sight ≡ first_place entries sight
