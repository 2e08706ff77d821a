-- Events that are recorded for two addresses.
use Rattle.std.specs.Prelude.{List, [], Option, Some, None}
use Rattle.std.specs.BTreeMap.{get}
use Rattle.std.specs.Global.{Vec}
use Rattle.audit_model.specs.declared.address.Addr.{Addr}
use Rattle.audit_model.specs.LanePairs.{pair_cmp}
use Rattle.prep_cut.specs.declared.events.Events.{Events}
use Rattle.prep_cut.specs.declared.lease.Event.{Event}

abbrev pub items_in : Option (Vec Event) → List Event
items_in None = []
items_in (Some events) = events.items

-- in the order in which they were recorded
abbrev pub events_at : Events → Addr → Addr → List Event
events_at events one other = items_in (get pair_cmp events.by_ends (one, other))
