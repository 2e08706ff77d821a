-- The input of a lane of a certificate, over an intake.
use Rattle.std.specs.Prelude.{◌≡◌, ℕ, Some}
use Rattle.std.specs.List.{AllZip}
use Rattle.audit_model.specs.declared.certificate.CertLane.{CertLane}
use Rattle.audit_model.specs.declared.event.Event.{Event}
use Rattle.audit_model.specs.declared.event.Event.TheVariants.{In, Act, Out}
use Rattle.audit_sightings.specs.Intake.{Taken, sighting_at}
use Rattle.audit_lane.specs.Content.{Content, Happening, Came, Acted, Went}

-- the event with the sightings that have its ids, at its key
abbrev pub IsFrom : Taken → Event → Happening → Type 0
IsFrom taken (In sight key) (Came sighting user at) = (sighting_at taken sight ≡ Some sighting) × (key ≡ at)
IsFrom taken (In sight key) (Acted arrives leaves at) = ⊥
IsFrom taken (In sight key) (Went sighting at) = ⊥
IsFrom taken (Act sight gives key) (Came sighting user at) = ⊥
IsFrom taken (Act sight gives key) (Acted arrives leaves at) = (sighting_at taken sight ≡ Some arrives) × (sighting_at taken gives ≡ Some leaves) × (key ≡ at)
IsFrom taken (Act sight gives key) (Went sighting at) = ⊥
IsFrom taken (Out sight key) (Came sighting user at) = ⊥
IsFrom taken (Out sight key) (Acted arrives leaves at) = ⊥
IsFrom taken (Out sight key) (Went sighting at) = (sighting_at taken sight ≡ Some sighting) × (key ≡ at)

-- the lane's events, one by one, under its number, for its client, by the intake's policy
pub record IsInputOf (taken : Taken) (number : ℕ) (lane : CertLane) (content : Content) : Type 0 where
  pub number' : content.number ≡ number
  pub client : content.client ≡ lane.client
  pub listen : content.listen ≡ lane.listen
  pub policy : content.policy ≡ taken.policy
  pub events : AllZip (IsFrom taken) lane.events content.events
