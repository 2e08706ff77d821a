-- The tenancy of a table's allocation: from the act that makes it to the one that replaces or
-- removes it.
use Rattle.std.specs.Prelude.{ℕ, Option, Some, None, option_map}
use Rattle.audit_model.specs.declared.event.At.{At}
use Rattle.audit_model.specs.declared.event.Key.{Key}
use Rattle.audit_model.specs.declared.sighting.SightId.{SightId}
use Rattle.audit_model.specs.declared.verdict.Tenancy.{Tenancy}
use Rattle.audit_model.specs.Window.{later}
use Rattle.audit_rules.specs.Allocation.{Change, Same, Makes, Renews, Grants, Binds, Removes}

abbrev pub lasting_to : ℕ → Tenancy → Tenancy
lasting_to last tenancy = record tenancy { last = last }

abbrev pub stopped_at : Key → Tenancy → Tenancy
stopped_at key tenancy = record tenancy { stopped = Some key }

-- the current tenancy after a change at this place, by this arrival; it lasts until the
-- allocation's end plus the grace
abbrev pub running_after : ℕ → At → SightId → Change → Option Tenancy → Option Tenancy
running_after grace at sight Same found = found
running_after grace at sight (Makes made) found = Some (record { born = at; stopped = None; last = later made.until grace; relayed = made.relayed; sight = sight })
running_after grace at sight (Renews until) found = option_map (lasting_to (later until grace)) found
running_after grace at sight (Grants ips until) found = found
running_after grace at sight (Binds number peer until permitted) found = found
running_after grace at sight Removes found = None

-- the tenancy that the change ends
abbrev pub ended_by : Key → Change → Option Tenancy → Option Tenancy
ended_by key Same found = None
ended_by key (Makes made) found = option_map (stopped_at key) found
ended_by key (Renews until) found = None
ended_by key (Grants ips until) found = None
ended_by key (Binds number peer until permitted) found = None
ended_by key Removes found = option_map (stopped_at key) found
