-- A machine that goes on from what was carried over a cut.
use Rattle.std.specs.Prelude.{ℕ, ◌≡◌, ◌≢◌, ◌≤◌, ◌<◌, ◌^◌, ◌⊎◌, Bool, List, length, Option, Some, None, if◌then◌else◌, slice_index_or, IsSomeAnd}
use Rattle.audit_model.specs.declared.address.Addr.{Addr}
use Rattle.audit_model.specs.declared.pair.Pair.{Pair}
use Rattle.audit_model.specs.declared.sighting.SightId.{SightId}
use Rattle.audit_model.specs.Sames.{same_client}
use Rattle.audit_rules.specs.Allocation.{Allocation}
use Rattle.audit_cuts.specs.declared.carried.Client.{Client}
use Rattle.audit_cuts.specs.Absolute.{absolute_cut}
use Rattle.audit_cuts.specs.Carried.{allocation_of, allocation_in}
use Rattle.audit_cuts.specs.Rebasing.{bases_of, IsUnfitFor}
use Rattle.audit_cuts.specs.declared.carried.Carried.{Carried}
use Rattle.audit_expiry.specs.Lease.{IsUsable}
use Rattle.audit_server.specs.Run.{HasAddress}
use Rattle.audit_segments.specs.Cut.{Cut}
use Rattle.audit_segments.specs.Shifted.{shifted, shifted_cut}
use Rattle.audit_machine.specs.declared.carry_error.CarryError.{CarryError}
use Rattle.audit_machine.specs.declared.carry_error.CarryError.TheVariants as errors
use Rattle.audit_machine.specs.declared.counts.Counts.{Counts}
use Rattle.audit_machine.specs.Counts.{count_of}
use Rattle.audit_machine.specs.declared.machine.Machine.{Machine}
use Rattle.audit_machine.specs.Machine.{cut_of}

-- the allocation that was there, or else that of the client, if it is this one
abbrev pub or_client : Option Allocation → Client → Pair → Option Allocation
or_client (Some found) client c = Some found
or_client None client c = if same_client client.pair c then Some (allocation_of client) else None

-- the base of an interface
abbrev pub base_at : List ℕ → ℕ → ℕ
base_at bases iface = slice_index_or bases iface 0

-- the cut of a machine whose ids count from these bases, by the ids among all captured sightings,
-- if these are excluded
abbrev pub absolute_cut_of : List ℕ → Machine → (SightId → Bool) → Cut
absolute_cut_of bases m excluded = shifted_cut (base_at bases) excluded (cut_of m (λ s. excluded (shifted (base_at bases) s)))

-- both machines have one cut by the ids among all captured sightings
abbrev pub AreOneCut : List ℕ → Machine → List ℕ → Machine → (SightId → Bool) → Type 0
AreOneCut bases one others other excluded = absolute_cut_of others other excluded ≡ absolute_cut_of bases one excluded

-- an interface from this one on has a count other than 0
abbrev pub HasCountFrom : ℕ → Counts → Type 0
HasCountFrom end counts = (iface : ℕ) × (end ≤ iface) × (0 < count_of counts iface)

-- why counts can't have these bases
abbrev pub LacksBase : Counts → List ℕ → CarryError → Type 0
LacksBase counts bases errors.Interfaces = (2 ^ 32 ≤ length bases) ⊎ HasCountFrom (length bases) counts
LacksBase counts bases errors.Held = ⊥
LacksBase counts bases (errors.Rebase error) = ⊥
LacksBase counts bases errors.Memory = Unit {0}

-- another client has a usable allocation with this client's relayed address
abbrev pub IsHeldBeside : ℕ → ℕ → (Pair → Option Allocation) → Pair → Addr → Type 0
IsHeldBeside grace moment table pair relayed = (other : Pair) × (other ≢ pair) × HasAddress grace moment relayed (table other)

-- the client's allocation is usable, and another one has its relayed address
abbrev pub IsHeldFor : ℕ → ℕ → (Pair → Option Allocation) → Pair → Option Allocation → Type 0
IsHeldFor grace moment table pair allocation = IsSomeAnd allocation (λ a. IsUsable a.until moment grace × IsHeldBeside grace moment table pair a.relayed)

-- why a client can't be added to the allocations that are there
abbrev pub CanNotAdd : ℕ → ℕ → (Pair → Option Allocation) → Client → CarryError → Type 0
CanNotAdd grace moment table client errors.Interfaces = ⊥
CanNotAdd grace moment table client errors.Held = (table client.pair ≡ None) × IsHeldFor grace moment table client.pair (Some (allocation_of client))
CanNotAdd grace moment table client (errors.Rebase error) = ⊥
CanNotAdd grace moment table client errors.Memory = Unit {0}

-- two clients have usable allocations with one relayed address
abbrev pub ShareAddress : ℕ → ℕ → (Pair → Option Allocation) → Type 0
ShareAddress grace moment table = (c : Pair) × (relayed : Addr) × HasAddress grace moment relayed (table c) × IsHeldBeside grace moment table c relayed

-- why clients can't be added to an empty table
abbrev pub CanNotAddAll : ℕ → ℕ → List Client → CarryError → Type 0
CanNotAddAll grace moment clients errors.Interfaces = ⊥
CanNotAddAll grace moment clients errors.Held = ShareAddress grace moment (allocation_in clients)
CanNotAddAll grace moment clients (errors.Rebase error) = ⊥
CanNotAddAll grace moment clients errors.Memory = Unit {0}

-- why no machine can go on from what was carried
abbrev pub CanNotResume : ℕ → Carried → CarryError → Type 0
CanNotResume grace carried errors.Interfaces = 2 ^ 32 ≤ length carried.interfaces.items
CanNotResume grace carried errors.Held = ShareAddress grace carried.moment (allocation_in carried.clients.items)
CanNotResume grace carried (errors.Rebase error) = ⊥
CanNotResume grace carried errors.Memory = Unit {0}

-- what is carried of a machine whose ids count from the first bases, with ids that count from the
-- second ones
abbrev pub IsCarriedOver : Machine → (bases others : List ℕ) → Carried → Type 0
IsCarriedOver m bases others carried = (bases_of carried.interfaces.items ≡ others) × ((excluded : SightId → Bool) → absolute_cut carried excluded ≡ absolute_cut_of bases m excluded)

-- what is carried by the machine's bases can't have the others
abbrev pub CanNotMove : Machine → (bases others : List ℕ) → CarryError → Type 0
CanNotMove m bases others (errors.Rebase why) = (carried : Carried) × IsCarriedOver m bases bases carried × IsUnfitFor carried others why
CanNotMove m bases others errors.Interfaces = ⊥
CanNotMove m bases others errors.Held = ⊥
CanNotMove m bases others errors.Memory = Unit {0}

-- why a machine can't have other bases: it can't be carried by its own ones, its ids can't count
-- from the others, or no machine can go on from what is carried by these
abbrev pub CanNotBeRebased : ℕ → Machine → (bases others : List ℕ) → CarryError → Type 0
CanNotBeRebased grace m bases others error =
    LacksBase m.placed bases error ⊎ CanNotMove m bases others error ⊎ ((carried : Carried) × IsCarriedOver m bases others carried × CanNotResume grace carried error)
