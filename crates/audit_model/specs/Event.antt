-- The parts of an event.
use Rattle.audit_model.specs.declared.event.Event.{Event}
use Rattle.audit_model.specs.declared.event.Event.TheVariants.{In, Act, Out}
use Rattle.audit_model.specs.declared.event.Key.{Key}
use Rattle.audit_model.specs.declared.sighting.SightId.{SightId}

abbrev pub key_of : Event → Key
key_of (In sight key) = key
key_of (Act sight gives key) = key
key_of (Out sight key) = key

-- for an act its arrival
abbrev pub sight_of : Event → SightId
sight_of (In sight key) = sight
sight_of (Act sight gives key) = sight
sight_of (Out sight key) = sight
