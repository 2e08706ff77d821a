-- Which Allocate requests and success responses captures show.
use Rattle.std.specs.Prelude.{◌≡◌, Contains, ⊤, Bool, true, false, List, [], ◌∷◌, Option, Some, None}
use Rattle.std.specs.declared.cmp.Ordering.{Ordering}
use Rattle.std.specs.BTreeSet.{contains}
use Rattle.std.specs.Cmp.Lexicographic.{slice_cmp}
use Rattle.std.specs.Ordering.{nat_cmp, ordering_then}
use Rattle.audit_model.specs.declared.sighting.Side.{Side}
use Rattle.audit_model.specs.declared.sighting.Side.TheVariants.{Arrives, Leaves}
use Rattle.audit_model.specs.declared.policy.Policy.{Policy}
use Rattle.audit_model.specs.LanePairs.{addr_cmp}
use Rattle.prep_blocks.specs.declared.block.Block.{Block}
use Rattle.prep_cut.specs.declared.transaction.Transaction.{Transaction}
use Rattle.prep_cut.specs.declared.allocations.Allocations.{Allocations}
use Rattle.prep_cut.specs.declared.datagram.Datagram.{Datagram}
use Rattle.prep_cut.specs.Datagrams.{datagram_of_block}
use Rattle.prep_cut.specs.Releasing.{AreReleased}
use Rattle.prep_cut.specs.Sending.{AreSenders}
use Rattle.audit_model.specs.declared.address.Addr.{Addr}
use Rattle.prep_cut.specs.declared.lease.Event.{Event}
use Rattle.prep_cut.specs.Leases.{IsEventShown}
use Rattle.prep_cut.specs.Held.{HasEvent}
use Rattle.prep_cut.specs.Noted.{events_at}
use Rattle.prep_cut.specs.Edges.{AreAfter}

-- the order of transactions
abbrev pub transaction_cmp : Transaction → Transaction → Ordering
transaction_cmp a b = ordering_then (addr_cmp a.client b.client) (ordering_then (addr_cmp a.listen b.listen) (slice_cmp nat_cmp a.tid b.tid))

abbrev pub is_noted_on : Side → Allocations → Option Transaction → Bool
is_noted_on side allocations None = true
is_noted_on Arrives allocations (Some transaction) = contains transaction_cmp allocations.asked transaction
is_noted_on Leaves allocations (Some transaction) = contains transaction_cmp allocations.granted transaction

-- the Allocate of the datagram is recorded
abbrev pub is_noted : Allocations → Datagram → Bool
is_noted allocations datagram = is_noted_on datagram.side allocations datagram.allocate

abbrev pub is_noted_if : Allocations → Option Datagram → Bool
is_noted_if allocations None = true
is_noted_if allocations (Some datagram) = is_noted allocations datagram

-- the Allocate of the block's datagram is recorded, if the block has a datagram of the service
abbrev pub is_noted_in : Policy → Allocations → Block → Bool
is_noted_in policy allocations block = is_noted_if allocations (datagram_of_block policy block)

-- the same of each of these blocks
abbrev pub AreAllNoted : Policy → Allocations → List Block → Type 0
AreAllNoted policy allocations [] = ⊤
AreAllNoted policy allocations (first ∷ others) = (is_noted_in policy allocations first ≡ true) × AreAllNoted policy allocations others

-- The Allocates of these blocks are recorded, and no packet of theirs is before the first recorded
-- moment. Each recorded deletion and event is one of theirs, and each recorded client sends
-- something in them.
pub record AreNoted (policy : Policy) (allocations : Allocations) (blocks : List Block) : Type 0 where
  pub noted : AreAllNoted policy allocations blocks
  pub released : AreReleased policy allocations blocks
  pub senders : AreSenders policy allocations blocks
  pub events : (event : Event) → IsEventShown policy event blocks → HasEvent allocations.leases event
  pub only : (event : Event) (client listen : Addr) → Contains (events_at allocations.leases.clients client listen) event → IsEventShown policy event blocks
  pub first : AreAfter allocations.first blocks

abbrev pub is_shown_on : Side → Allocations → Option Transaction → Bool
is_shown_on side allocations None = false
is_shown_on Arrives allocations (Some transaction) = contains transaction_cmp allocations.granted transaction
is_shown_on Leaves allocations (Some transaction) = contains transaction_cmp allocations.asked transaction

-- an Allocate success response whose request is recorded, or an Allocate request whose success
-- response is
abbrev pub is_shown : Allocations → Datagram → Bool
is_shown allocations datagram = is_shown_on datagram.side allocations datagram.allocate
