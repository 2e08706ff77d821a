-- The content of a sighting, and the pool that it is in or answers.
use Rattle.std.specs.Prelude.{Bool, true, false, Option, None, Some}
use Rattle.audit_seen.specs.declared.content.Content.{Content}
use Rattle.audit_seen.specs.declared.numbers.PoolNumber.{PoolNumber}
use Rattle.audit_seen.specs.declared.seen.Says.{Says}
use Rattle.audit_seen.specs.declared.seen.Says.TheVariants as says

-- whether it arrives
abbrev pub is_arrival : Says → Bool
is_arrival (says.Request pool) = true
is_arrival (says.Sent pool) = true
is_arrival (says.Received pool) = true
is_arrival says.Nothing = true
is_arrival (says.Departure content pool) = false

-- the pool that an arrival is in
abbrev pub pool_in : Says → Option PoolNumber
pool_in (says.Request pool) = Some pool
pool_in (says.Sent pool) = Some pool
pool_in (says.Received pool) = Some pool
pool_in says.Nothing = None
pool_in (says.Departure content pool) = None

-- the pool of the requests that a departure answers
abbrev pub answered_pool : Says → Option PoolNumber
answered_pool (says.Request pool) = None
answered_pool (says.Sent pool) = None
answered_pool (says.Received pool) = None
answered_pool says.Nothing = None
answered_pool (says.Departure content pool) = pool

-- the content of a departure
abbrev pub departure_content : Says → Option Content
departure_content (says.Request pool) = None
departure_content (says.Sent pool) = None
departure_content (says.Received pool) = None
departure_content says.Nothing = None
departure_content (says.Departure content pool) = Some content
