-- What is noted of leases, with a block more.
use Rattle.std.proofs.Common.{◌≡◌, ◌≤◌, ◌⊎◌, inl, inr, ℕ, List, [], ◌∷◌, ◌++◌, Option, Some, None, arith}
use Rattle.std.specs.Prelude.{Contains}
use Rattle.audit_model.specs.declared.address.Addr.{Addr}
use Rattle.audit_model.specs.declared.policy.Policy.{Policy}
use Rattle.prep_blocks.specs.declared.block.Block.{Block}
use Rattle.prep_blocks.specs.declared.block.PacketHead.{PacketHead}
use Rattle.prep_cut.specs.declared.allocations.Allocations.{Allocations}
use Rattle.prep_cut.specs.declared.lease.Event.{Event}
use Rattle.prep_cut.specs.Edges.{AreAfter, IsAfter}
use Rattle.prep_cut.specs.Held.{HasEvent}
use Rattle.prep_cut.specs.Leases.{IsEventIn, IsEventShown}
use Rattle.prep_cut.specs.Noted.{events_at}

-- the events that are new are the block's, and its packet's moment isn't before the first
pub record Learns (policy : Policy) (old new : Allocations) (b : Block) : Type 0 where
  pub events : (event : Event) → IsEventIn policy event b → HasEvent new.leases event
  pub kept : (event : Event) → HasEvent old.leases event → HasEvent new.leases event
  pub only : (event : Event) (client listen : Addr) → Contains (events_at new.leases.clients client listen) event
      → Contains (events_at old.leases.clients client listen) event ⊎ IsEventIn policy event b
  pub least : IsAfter new.first b.packet
  pub less : new.first ≤ old.first

further : (policy : Policy) (event : Event) (first : Block) (others : List Block) (b : Block) → IsEventShown policy event others ⊎ IsEventIn policy event b
    → IsEventShown policy event (first ∷ others) ⊎ IsEventIn policy event b
further policy event first others b (inl shown) = inl (inr shown)
further policy event first others b (inr is) = inr is

which : (policy : Policy) (event : Event) (blocks : List Block) (b : Block) → IsEventShown policy event (blocks ++ b ∷ []) → IsEventShown policy event blocks ⊎ IsEventIn policy event b
which policy event [] b (inl is) = inr is
which policy event [] b (inr other) = absurd other
which policy event (first ∷ others) b (inl is) = inl (inl is)
which policy event (first ∷ others) b (inr other) = further policy event first others b (which policy event others b other)

before : (policy : Policy) (event : Event) (blocks : List Block) (b : Block) → IsEventShown policy event blocks → IsEventShown policy event (blocks ++ b ∷ [])
before policy event [] b shown = absurd shown
before policy event (first ∷ others) b (inl one) = inl one
before policy event (first ∷ others) b (inr other) = inr (before policy event others b other)

last : (policy : Policy) (event : Event) (blocks : List Block) (b : Block) → IsEventIn policy event b → IsEventShown policy event (blocks ++ b ∷ [])
last policy event [] b is = inl is
last policy event (first ∷ others) b is = inr (last policy event others b is)

has_either : (policy : Policy) (old new : Allocations) (b : Block) (event : Event) → Learns policy old new b → HasEvent old.leases event ⊎ IsEventIn policy event b → HasEvent new.leases event
has_either policy old new b event learns (inl had) = learns.kept event had
has_either policy old new b event learns (inr is) = learns.events event is

noted_if : (policy : Policy) (old : Allocations) (blocks : List Block) (b : Block) (event : Event) → ((event : Event) → IsEventShown policy event blocks → HasEvent old.leases event)
    → IsEventShown policy event blocks ⊎ IsEventIn policy event b → HasEvent old.leases event ⊎ IsEventIn policy event b
noted_if policy old blocks b event noted (inl shown) = inl (noted event shown)
noted_if policy old blocks b event noted (inr is) = inr is

pub events_more : (policy : Policy) (old new : Allocations) (blocks : List Block) (b : Block) → ((event : Event) → IsEventShown policy event blocks → HasEvent old.leases event)
    → Learns policy old new b → (event : Event) → IsEventShown policy event (blocks ++ b ∷ []) → HasEvent new.leases event
events_more policy old new blocks b noted learns event shown = has_either policy old new b event learns (noted_if policy old blocks b event noted (which policy event blocks b shown))

shown_if : (policy : Policy) (old : Allocations) (blocks : List Block) (b : Block) (event : Event) (client listen : Addr)
    → ((event : Event) (client listen : Addr) → Contains (events_at old.leases.clients client listen) event → IsEventShown policy event blocks)
    → Contains (events_at old.leases.clients client listen) event ⊎ IsEventIn policy event b → IsEventShown policy event (blocks ++ b ∷ [])
shown_if policy old blocks b event client listen only (inl had) = before policy event blocks b (only event client listen had)
shown_if policy old blocks b event client listen only (inr is) = last policy event blocks b is

pub only_more : (policy : Policy) (old new : Allocations) (blocks : List Block) (b : Block)
    → ((event : Event) (client listen : Addr) → Contains (events_at old.leases.clients client listen) event → IsEventShown policy event blocks) → Learns policy old new b
    → (event : Event) (client listen : Addr) → Contains (events_at new.leases.clients client listen) event → IsEventShown policy event (blocks ++ b ∷ [])
only_more policy old new blocks b only learns event client listen has = shown_if policy old blocks b event client listen only (learns.only event client listen has)

lower : (old new : ℕ) (packet : Option PacketHead) → new ≤ old → IsAfter old packet → IsAfter new packet
lower old new None less after = tt
lower old new (Some head) less after = omega (arith, less, after)

pub after_more : (old new : ℕ) (blocks : List Block) (b : Block) → new ≤ old → AreAfter old blocks → IsAfter new b.packet → AreAfter new (blocks ++ b ∷ [])
after_more old new [] b less after one = (one, tt)
after_more old new (first ∷ others) b less after one = (lower old new first.packet less after.0, after_more old new others b less after.1 one)
