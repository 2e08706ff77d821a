-- The datagrams that stay in, of a client that was granted an allocation.
use Rattle.std.specs.Prelude.{◌≡◌, ◌≤◌, ◌+◌, ◌*◌, ℕ, ⊤, true, false, List}
use Rattle.audit_model.specs.declared.address.Addr.{Addr}
use Rattle.audit_model.specs.declared.policy.Policy.{Policy}
use Rattle.audit_model.specs.declared.sighting.Side.TheVariants.{Leaves}
use Rattle.prep_blocks.specs.declared.block.Block.{Block}
use Rattle.prep_cut.specs.declared.allocations.Allocations.{Allocations}
use Rattle.prep_cut.specs.declared.datagram.Datagram.{Datagram}
use Rattle.prep_cut.specs.declared.lease.Act.TheVariants as acts
use Rattle.prep_cut.specs.declared.lease.Event.{Event}
use Rattle.prep_cut.specs.declared.plan.Plan.{Plan}
use Rattle.prep_cut.specs.declared.reason.Reason.{Reason}
use Rattle.prep_cut.specs.declared.reason.Reason.TheVariants as reasons
use Rattle.prep_cut.specs.Edges.{edge_of}
use Rattle.prep_cut.specs.Guard.{far_end, own_end}
use Rattle.prep_cut.specs.Lasting.{is_asked_by, is_leased, is_tenant}
use Rattle.prep_cut.specs.Leases.{IsEventShown}

-- the lines of data: between addresses of the service, and after a deletion
abbrev pub IsOfData : Reason → Type 0
IsOfData (reasons.Inner pair peer) = ⊤
IsOfData (reasons.Released pair relayed moment) = ⊤
IsOfData other = ⊥

-- No client has a lease of its address. If it is between the service and a client that was granted
-- an allocation before, it is data, and the line is one of data.
pub record KeepsLeases (allocations : Allocations) (reason : Reason) (datagram : Datagram) : Type 0 where
  pub apart : is_leased allocations (own_end datagram) datagram.stamp ≡ false
  pub only : is_tenant allocations (far_end datagram) (own_end datagram) datagram.stamp ≡ true → (datagram.is_data ≡ true) × IsOfData reason

-- the same for each line except `inside` and those of stated moments
abbrev pub Keeps : Allocations → Reason → Datagram → Type 0
Keeps allocations reasons.BeforeSince datagram = ⊤
Keeps allocations reasons.AfterUntil datagram = ⊤
Keeps allocations (reasons.Inside from to) datagram = ⊤
Keeps allocations other datagram = KeepsLeases allocations other datagram

-- The captures show that a client was granted this address by a response to a recorded request,
-- that the lifetime of the response has not expired at this moment, and no response that deletes
-- the allocation up to it.
pub record HasLease (policy : Policy) (allocations : Allocations) (captured : List Block) (grant : Event) (relayed : Addr) (tid : List ℕ) (stamp : ℕ) : Type 0 where
  pub granted : IsEventShown policy grant captured
  pub address : grant.said.act ≡ acts.Grants relayed tid
  pub asked : is_asked_by allocations grant (acts.Grants relayed tid) ≡ true
  pub begun : grant.moment ≤ stamp
  pub lasting : stamp ≤ grant.moment + grant.said.seconds * 1000000000
  pub unended : (event : Event) → IsEventShown policy event captured → event.said.act ≡ acts.Ends → grant.moment ≤ event.moment → event.moment ≤ stamp → ⊥

-- `edge` excludes only departures before the hold and twice the greatest skew have passed after the
-- start of the captures, and nothing if the server started with them
pub record IsEarly (plan : Plan) (datagram : Datagram) : Type 0 where
  pub started : plan.stated.is_from_start ≡ false
  pub leaves : datagram.side ≡ Leaves
  pub soon : datagram.stamp ≤ edge_of plan.policy plan.stated plan.allocations
