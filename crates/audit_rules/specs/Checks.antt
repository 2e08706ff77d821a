-- docs/RULES.md, The answers.
-- The checks of each of the eleven cases of an act, in the order in which they are reported.
use Rattle.std.specs.Prelude.{◌≡◌, ◌≢◌, ◌⊎◌, ◌↔◌, ℕ, ◌<◌, ◌≤◌, List, [], ◌∷◌, Some, length, IsSome, IsSomeAnd}
use Rattle.audit_model.specs.declared.address.Addr.{Addr}
use Rattle.audit_model.specs.declared.rule.Rule.TheVariants.{NotAuthentic, OtherUser, NoAllocation, AllocationOver, NoPermission, PermissionOver, NoChannel, ChannelOver, ChannelNumber, ChannelConflict, PeerDiffers, DataDiffers, RelayedAddress, Lifetime, TransportOrFamily, MappedAddress, ResponseIntegrity, ErrorCondition, AllocationPresent, Malformed}
use Rattle.audit_stun.specs.declared.numbers.attribute.TheConstants.{XOR_MAPPED_ADDRESS, XOR_RELAYED_ADDRESS, XOR_PEER_ADDRESS, DATA}
use Rattle.audit_stun.specs.Counted.{first_of}
use Rattle.audit_stun.specs.ChannelData.{channel_data_of}
use Rattle.audit_rules.specs.Allocation.{Allocation}
use Rattle.audit_rules.specs.Situation.{Situation, arrival_parts, answered}
use Rattle.audit_rules.specs.Values.{Has, Names, address_named, code_of, lifetime_of, channel_number_of, peer_ips_of}
use Rattle.audit_rules.specs.Standing.{IsByUser, IsSignedBack, WithUsable, NothingLasts, IsOwn, UsableNow, Permits}
use Rattle.audit_rules.specs.Responses.{Fits}
use Rattle.audit_rules.specs.Allocating.{RequestsUdpOnIpv4, MayBeRelayed, EndsNothing}
use Rattle.audit_rules.specs.Granting.{NoConflict, IsChannelNumber}
use Rattle.audit_rules.specs.Check.{Check, check_by}

-- the departure has an address in this attribute
abbrev pub has_address : ℕ → Situation → Check
has_address kind x = check_by (IsSome (address_named kind (answered x))) Malformed

abbrev pub has_lifetime : Situation → Check
has_lifetime x = check_by (IsSome (lifetime_of (answered x))) Malformed

abbrev pub maps_client : Situation → Check
maps_client x = check_by (Names XOR_MAPPED_ADDRESS (answered x) x.client) MappedAddress

abbrev pub is_by_user : Situation → Check
is_by_user x = check_by (IsByUser x) NotAuthentic

abbrev pub is_signed_back : Situation → Check
is_signed_back x = check_by (IsSignedBack x) ResponseIntegrity

-- the allocation has the property
abbrev pub WithAllocation : Situation → (Allocation → Type 0) → Type 0
WithAllocation x Fact = IsSomeAnd x.allocation Fact

-- there is an allocation, and it is usable
abbrev pub with_allocation : Situation → List Check → List Check
with_allocation x more = check_by (IsSome x.allocation) NoAllocation ∷ check_by (WithUsable x (λ a. Unit {0})) AllocationOver ∷ more

-- and the request is its user's
abbrev pub with_own : Situation → List Check → List Check
with_own x more = with_allocation x (check_by (WithAllocation x (IsOwn x)) OtherUser ∷ more)

-- the IP has a permission, and it is usable
abbrev pub with_permission : Situation → ℕ → List Check → List Check
with_permission x ip more =
    check_by (WithAllocation x (λ a. IsSome (a.permissions ip))) NoPermission ∷ check_by (WithAllocation x (λ a. Permits x a ip)) PermissionOver ∷ more

-- the payload is ChannelData, and its number, its data and the number of bytes after that have the
-- property
abbrev pub SaysChannel : List ℕ → (ℕ → List ℕ → ℕ → Type 0) → Type 0
SaysChannel payload Fact = IsSomeAnd (channel_data_of payload) (λ said. Fact said.0 said.1 said.2)

-- the number of this ChannelData is bound, the binding is usable, and to this peer
abbrev pub with_channel : Situation → List ℕ → Addr → List Check → List Check
with_channel x payload peer more =
    check_by (SaysChannel payload (λ number bytes after. WithAllocation x (λ a. IsSome (a.channels number)))) NoChannel
    ∷ check_by (SaysChannel payload (λ number bytes after. WithAllocation x (λ a. IsSomeAnd (a.channels number) (λ c. UsableNow x c.lease.until)))) ChannelOver
    ∷ check_by (SaysChannel payload (λ number bytes after. WithAllocation x (λ a. IsSomeAnd (a.channels number) (λ c. c.peer ≡ peer)))) PeerDiffers
    ∷ more

abbrev pub binding_checks : Situation → List Check
binding_checks x = has_address XOR_MAPPED_ADDRESS x ∷ maps_client x ∷ []

abbrev pub error_checks : Situation → List Check
error_checks x =
    check_by (IsSome (code_of (answered x))) Malformed
    ∷ check_by (IsSomeAnd (code_of (answered x)) (Fits x)) ErrorCondition
    ∷ []

abbrev pub new_checks : Situation → List Check
new_checks x =
    is_by_user x
    ∷ check_by (NothingLasts x) AllocationPresent
    ∷ check_by (RequestsUdpOnIpv4 x) TransportOrFamily
    ∷ has_address XOR_RELAYED_ADDRESS x
    ∷ has_lifetime x
    ∷ has_address XOR_MAPPED_ADDRESS x
    ∷ check_by (IsSomeAnd (address_named XOR_RELAYED_ADDRESS (answered x)) (MayBeRelayed x)) RelayedAddress
    ∷ check_by (lifetime_of (answered x) ≢ Some 0) Lifetime
    ∷ maps_client x
    ∷ is_signed_back x
    ∷ []

abbrev pub again_checks : Situation → List Check
again_checks x =
    is_by_user x
    ∷ check_by (WithAllocation x (IsOwn x)) OtherUser
    ∷ has_address XOR_RELAYED_ADDRESS x
    ∷ has_address XOR_MAPPED_ADDRESS x
    ∷ check_by (WithAllocation x (λ a. Names XOR_RELAYED_ADDRESS (answered x) a.relayed)) RelayedAddress
    ∷ maps_client x
    ∷ is_signed_back x
    ∷ []

-- a Refresh that ends nothing requires no allocation
abbrev pub refresh_checks : Situation → List Check
refresh_checks x =
    is_by_user x
    ∷ has_lifetime x
    ∷ check_by (EndsNothing x ⊎ IsSome x.allocation) NoAllocation
    ∷ check_by (EndsNothing x ⊎ WithUsable x (λ a. Unit {0})) AllocationOver
    ∷ check_by (EndsNothing x ⊎ WithAllocation x (IsOwn x)) OtherUser
    ∷ check_by (EndsNothing x ⊎ ((lifetime_of (arrival_parts x) ≡ Some 0) ↔ (lifetime_of (answered x) ≡ Some 0))) Lifetime
    ∷ is_signed_back x
    ∷ []

abbrev pub permission_checks : Situation → List Check
permission_checks x = is_by_user x ∷ with_own x (check_by (IsSomeAnd (peer_ips_of (arrival_parts x)) (λ ips. 0 < length ips)) PeerDiffers ∷ is_signed_back x ∷ [])

-- the requested number and peer have no conflict
abbrev pub MayBind : Situation → Type 0
MayBind x = IsSomeAnd (address_named XOR_PEER_ADDRESS (arrival_parts x)) (λ peer. IsSomeAnd (channel_number_of (arrival_parts x)) (λ number. WithAllocation x (NoConflict x number peer)))

abbrev pub channel_bind_checks : Situation → List Check
channel_bind_checks x =
    is_by_user x
    ∷ with_own x
    (check_by (IsSomeAnd (channel_number_of (arrival_parts x)) IsChannelNumber) ChannelNumber
    ∷ check_by (IsSome (address_named XOR_PEER_ADDRESS (arrival_parts x))) PeerDiffers
    ∷ check_by (MayBind x) ChannelConflict
    ∷ is_signed_back x
    ∷ [])

abbrev pub send_checks : Situation → List Check
send_checks x =
    with_allocation x
    (check_by (WithAllocation x (λ a. x.leaves.from ≡ a.relayed)) RelayedAddress
    ∷ check_by (Names XOR_PEER_ADDRESS (arrival_parts x) x.leaves.to) PeerDiffers
    ∷ with_permission x x.leaves.to.ip (check_by (Has DATA (arrival_parts x) x.leaves.payload) DataDiffers ∷ []))

abbrev pub channel_up_checks : Situation → List Check
channel_up_checks x =
    with_allocation x
    (check_by (WithAllocation x (λ a. x.leaves.from ≡ a.relayed)) RelayedAddress
    ∷ with_channel x x.arrives.payload x.leaves.to
    (check_by (SaysChannel x.arrives.payload (λ number bytes after. bytes ≡ x.leaves.payload)) DataDiffers ∷ []))

abbrev pub data_checks : Situation → List Check
data_checks x =
    has_address XOR_PEER_ADDRESS x
    ∷ check_by (IsSome (first_of DATA (answered x).attributes)) Malformed
    ∷ with_allocation x
    (check_by (WithAllocation x (λ a. x.arrives.to ≡ a.relayed)) RelayedAddress
    ∷ with_permission x x.arrives.from.ip
    (check_by (Names XOR_PEER_ADDRESS (answered x) x.arrives.from) PeerDiffers ∷ check_by (Has DATA (answered x) x.arrives.payload) DataDiffers ∷ []))

abbrev pub channel_down_checks : Situation → List Check
channel_down_checks x =
    check_by (SaysChannel x.leaves.payload (λ number bytes after. after ≤ 3)) Malformed
    ∷ with_allocation x
    (check_by (WithAllocation x (λ a. x.arrives.to ≡ a.relayed)) RelayedAddress
    ∷ with_permission x x.arrives.from.ip
    (with_channel x x.leaves.payload x.arrives.from
    (check_by (SaysChannel x.leaves.payload (λ number bytes after. bytes ≡ x.arrives.payload)) DataDiffers ∷ [])))
