-- The value of a map for a sighting.
use Rattle.std.specs.Prelude.{ℕ, Option, option_and_then}
use Rattle.std.specs.Option.{option_or}
use Rattle.std.specs.BTreeMap.{get}
use Rattle.std.specs.Ordering.{nat_cmp}
use Rattle.audit_model.specs.declared.sighting.SightId.{SightId}
use Rattle.audit_sights.specs.declared.interface.InterfaceMap.{InterfaceMap}
use Rattle.audit_sights.specs.declared.map.SightMap.{SightMap}
use Rattle.audit_sights.specs.Pairs.{value_at}

-- for an interface: a value in rising order, or else one that isn't
abbrev pub found_in : {V : Type 0} → InterfaceMap V → ℕ → Option V
found_in values index = option_or (value_at values.rising index) (get nat_cmp values.others index)

abbrev pub found : {V : Type 0} → SightMap V → SightId → Option V
found map sight = option_and_then (λ values. found_in values sight.index) (get nat_cmp map.by_interface sight.iface)
