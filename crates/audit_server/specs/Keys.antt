-- Look-ups of keys that are equal for a move.
use Rattle.std.specs.Prelude.{◌≡◌, Option, Some}
use Rattle.audit_model.specs.declared.sighting.SightId.{SightId}
use Rattle.audit_model.specs.declared.sighting.Sighting.{Sighting}
use Rattle.audit_rules.specs.Keys.{KeyFor, AgreeOn}
use Rattle.audit_server.specs.Step.{Move, In, Act, Out}

-- both have the same key for the user and the realm that an act's arrival names
abbrev pub AgreeAt : KeyFor → KeyFor → (SightId → Option Sighting) → Move → Type 0
AgreeAt one other sighting (In s) = Unit {0}
AgreeAt one other sighting (Act c s t) = (arrives : Sighting) → sighting s ≡ Some arrives → AgreeOn one other arrives.payload
AgreeAt one other sighting (Out t) = Unit {0}
