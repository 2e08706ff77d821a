-- The key at which each sighting is placed, as the table stores it.
use Rattle.std.specs.Prelude.{Option, Some, None}
use Rattle.audit_model.specs.declared.event.Key.{Key}
use Rattle.audit_model.specs.declared.sighting.SightId.{SightId}
use Rattle.audit_placement.specs.declared.keys.PlacedKey.{PlacedKey}
use Rattle.audit_placement.specs.declared.keys.PlacedKey.TheVariants.{Nowhere, At}
use Rattle.audit_placement.specs.declared.keys.PlacedKeys.{PlacedKeys}
use Rattle.audit_placement.specs.Table.{table_or}

abbrev pub key_in : PlacedKey → Option Key
key_in Nowhere = None
key_in (At tie moment) = Some (record { moment = moment; tie = tie })

abbrev pub key_at : PlacedKeys → SightId → Option Key
key_at keys sight = key_in (table_or Nowhere keys.keys.by_interface.items sight)
