-- A table with a value for each sighting, in a list for each interface.
use Rattle.std.specs.Prelude.{List, Option, Some, None, slice_get, option_and_then}
use Rattle.std.specs.Global.{Vec}
use Rattle.audit_model.specs.declared.sighting.SightId.{SightId}

-- the value of a table at the place of that id
abbrev pub table_at : {X : Type 0} → List (Vec X) → SightId → Option X
table_at by_interface sight = option_and_then (λ values. slice_get values.items sight.index) (slice_get by_interface sight.iface)

-- that value, or the blank if there is no such place
abbrev pub or_blank : {X : Type 0} → X → Option X → X
or_blank blank None = blank
or_blank blank (Some x) = x

abbrev pub table_or : {X : Type 0} → X → List (Vec X) → SightId → X
table_or blank by_interface sight = or_blank blank (table_at by_interface sight)
