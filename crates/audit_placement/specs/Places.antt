-- Whether sightings are placed, by the table.
use Rattle.std.specs.Prelude.{◌≡◌, Bool, List, is_some}
use Rattle.audit_model.specs.declared.certificate.Certificate.{Certificate}
use Rattle.audit_model.specs.declared.sighting.SightId.{SightId}
use Rattle.audit_placement.specs.declared.entry.Entry.{Entry}
use Rattle.audit_placement.specs.declared.places.Places.{Places}
use Rattle.audit_placement.specs.declared.places.Places.TheVariants.{Once, First}
use Rattle.audit_placement.specs.FirstPlace.{noted, first_place}
use Rattle.audit_placement.specs.Keys.{key_at}

abbrev pub has_place : Certificate → Places → SightId → Bool
has_place certificate (Once keys) sight = is_some (key_at keys sight)
has_place certificate (First first) sight = is_some (noted certificate first sight)

-- the table has exactly the sightings that the entries place
abbrev pub Knows : Certificate → Places → List Entry → Type 0
Knows certificate places entries = (sight : SightId) → has_place certificate places sight ≡ is_some (first_place entries sight)
