-- Which events are recorded.
use Rattle.std.specs.Prelude.{⊤, Contains}
use Rattle.prep_cut.specs.declared.lease.Act.{Act}
use Rattle.prep_cut.specs.declared.lease.Act.TheVariants as acts
use Rattle.prep_cut.specs.declared.lease.Event.{Event}
use Rattle.prep_cut.specs.declared.leases.Leases.{Leases}
use Rattle.prep_cut.specs.Noted.{events_at}

-- a grant is recorded for its relayed address, too
abbrev pub HasGrant : Leases → Event → Act → Type 0
HasGrant leases event (acts.Grants relayed tid) = Contains (events_at leases.addresses relayed relayed) event
HasGrant leases event acts.Renews = ⊤
HasGrant leases event acts.Ends = ⊤

-- the event is recorded for its client
pub record HasEvent (leases : Leases) (event : Event) : Type 0 where
  pub of_client : Contains (events_at leases.clients event.client event.listen) event
  pub granted : HasGrant leases event event.said.act
