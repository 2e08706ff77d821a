-- Where all checks of a case hold, the departure may answer so.
use Rattle.std.proofs.Common.{◌≡◌, ◌≢◌, ◌⊎◌, inl, inr, ◌↔◌, ℕ, ◌<◌, ◌≤◌, ◌==◌, if◌then◌else◌, List, Option, Some, None, true, false, refl, ap, subst, ◌∙◌, arith}
use Rattle.std.specs.Prelude.{IsSome, IsSomeAnd, length}
use Rattle.std.proofs.lemmas.Bool.Decides.{nat_tests}
use Rattle.std.proofs.lemmas.Slice.Eq.{bytes_eq-Decides}
use Rattle.audit_model.specs.declared.address.Addr.{Addr}
use Rattle.audit_stun.specs.declared.class.Class.TheVariants.{Indication, Success, Error}
use Rattle.audit_stun.specs.declared.numbers.method.TheConstants.{BINDING, ALLOCATE, REFRESH, CREATE_PERMISSION, CHANNEL_BIND, SEND, DATA as DATA_METHOD}
use Rattle.audit_stun.specs.declared.numbers.attribute.TheConstants.{USERNAME, XOR_RELAYED_ADDRESS, XOR_PEER_ADDRESS}
use Rattle.audit_stun.specs.Counted.{first_of}
use Rattle.audit_stun.specs.ChannelData.{channel_data_of}
use Rattle.audit_rules.specs.declared.table.Channel.{Channel}
use Rattle.audit_rules.specs.Allocation.{Allocation, Same, Makes, Renews, Grants, Binds, Removes}
use Rattle.audit_rules.specs.Situation.{Situation, IsServed, arrival_parts, answered, IsOf}
use Rattle.audit_rules.specs.Values.{Names, address_named, code_of, lifetime_of, channel_number_of, peer_ips_of}
use Rattle.audit_rules.specs.Standing.{IsResponse, UsableNow, WithUsable, IsOwn, Permits, Carries}
use Rattle.audit_rules.specs.Responses.{Fits}
use Rattle.audit_rules.specs.Allocating.{seconds_after, made_by, MayBeRelayed, EndsNothing, IsRefreshed}
use Rattle.audit_rules.specs.Granting.{NoConflict, IsChannelNumber}
use Rattle.audit_rules.specs.Relaying.{GoesUp, GoesDown}
use Rattle.audit_rules.specs.Answer.{MayAnswer, Binding, Error as ErrorCase, New, Again, Refresh, Permission, ChannelBind, Send, ChannelUp, Data, ChannelDown}
use Rattle.audit_rules.specs.Check.{AllHold}
use Rattle.audit_rules.specs.Checks.{WithAllocation, SaysChannel, binding_checks, error_checks, new_checks, again_checks, refresh_checks, permission_checks, channel_bind_checks, send_checks, channel_up_checks, data_checks, channel_down_checks}
use Rattle.audit_rules.specs.FirstRule.{made_it}
use Rattle.audit_rules.proofs.Facts.{some_and, has_some, both_some, authentic, authentic_as}

pub binding_may : (x : Situation) → IsServed x → IsResponse x Success BINDING → AllHold (binding_checks x) → MayAnswer x Same
unfolding MayAnswer
binding_may x served response (has_mapped, (mapped, end)) = (served, Binding, (record { response = response; mapped = mapped }, refl))

pub error_may : (x : Situation) → IsServed x → IsResponse x Error (arrival_parts x).method → AllHold (error_checks x) → MayAnswer x Same
unfolding MayAnswer
error_may x served response (has_code, (fits, end)) =
    let s = some_and (code_of (answered x)) (Fits x) fits in
    (served, ErrorCase, (record { response = response; code = s.0; has_code = s.1; fits = s.2 }, refl))

pub made_is : (x : Situation) (found : Option Allocation) → made_it x found ≡ true → IsSomeAnd found (λ a. UsableNow x a.until × (a.id ≡ (arrival_parts x).tid))
made_is x None e = absurd cc
made_is x (Some a) e = (grind (arith, nat_tests, bytes_eq-Decides, e), grind (arith, nat_tests, bytes_eq-Decides, e))

pub not_made : (x : Situation) (found : Option Allocation) → made_it x found ≡ false → IsSomeAnd found (λ a. UsableNow x a.until × (a.id ≡ (arrival_parts x).tid)) → ⊥
not_made x None e h = absurd h
not_made x (Some a) e h = grind (arith, nat_tests, bytes_eq-Decides, e, h)

is_some_time : (n : ℕ) (time : Option ℕ) → time ≡ Some n → time ≢ Some 0 → 0 < n
is_some_time n time e not_zero =
    let h : n ≢ 0 = λ z. not_zero (e ∙ ap Some z) in
    omega (arith, h)

pub new_may : (x : Situation) → IsServed x → IsResponse x Success ALLOCATE → made_it x x.allocation ≡ false → AllHold (new_checks x)
    → (user : List ℕ) (relayed : Addr) (seconds : ℕ) → first_of USERNAME (arrival_parts x).attributes ≡ Some user → address_named XOR_RELAYED_ADDRESS (answered x) ≡ Some relayed → lifetime_of (answered x) ≡ Some seconds
    → MayAnswer x (Makes (made_by x relayed user seconds))
unfolding MayAnswer
new_may x served response first (by, (free, (transport, (has_relayed, (has_lifetime, (has_mapped, (in_range, (not_zero, (mapped, (signed, end)))))))))) user relayed seconds u r s = (
  served,
  New,
  record {
    response = response;
    first = λ again. not_made x x.allocation first again;
    user = user;
    authentic = authentic_as x user by u;
    free = free;
    served = transport;
    relayed = relayed;
    names_relayed = r;
    in_range = has_some (address_named XOR_RELAYED_ADDRESS (answered x)) (MayBeRelayed x) relayed r in_range;
    seconds = seconds;
    lasts = (s, is_some_time seconds (lifetime_of (answered x)) s not_zero);
    mapped = mapped;
    signed = signed;
    changes = refl;
  },
)

same_again : (x : Situation) (found : Option Allocation) → IsSomeAnd found (λ a. UsableNow x a.until × (a.id ≡ (arrival_parts x).tid)) → IsSomeAnd found (IsOwn x) → IsSomeAnd found (λ a. Names XOR_RELAYED_ADDRESS (answered x) a.relayed)
    → IsSomeAnd found (λ a. UsableNow x a.until × ((a.id ≡ (arrival_parts x).tid) × IsOwn x a × Names XOR_RELAYED_ADDRESS (answered x) a.relayed))
same_again x (Some a) made own names = (made.0, (made.1, own, names))
same_again x None made own names = absurd made

pub again_may : (x : Situation) → IsServed x → IsResponse x Success ALLOCATE → made_it x x.allocation ≡ true → AllHold (again_checks x) → MayAnswer x Same
unfolding MayAnswer
again_may x served response again (by, (own, (has_relayed, (has_mapped, (relayed, (mapped, (signed, end))))))) =
    let user = authentic x by in (
      served,
      Again,
      (
        record {
          response = response;
          user = user.0;
          authentic = user.2;
          same = same_again x x.allocation (made_is x x.allocation again) own relayed;
          mapped = mapped;
          signed = signed;
        },
        refl,
      ),
    )

allowed : (x : Situation) → (EndsNothing x ⊎ IsSome x.allocation) → (EndsNothing x ⊎ WithUsable x (λ a. Unit {0})) → (EndsNothing x ⊎ WithAllocation x (IsOwn x))
    → (EndsNothing x ⊎ ((lifetime_of (arrival_parts x) ≡ Some 0) ↔ (lifetime_of (answered x) ≡ Some 0))) → EndsNothing x ⊎ IsRefreshed x
allowed x (inl e) b c d = inl e
allowed x (inr a) (inl e) c d = inl e
allowed x (inr a) (inr b) (inl e) d = inl e
allowed x (inr a) (inr b) (inr c) (inl e) = inl e
allowed x (inr a) (inr b) (inr c) (inr d) = inr (both_some x.allocation (λ a. UsableNow x a.until) (IsOwn x) b c, d)

pub refresh_may : (x : Situation) → IsServed x → IsResponse x Success REFRESH → AllHold (refresh_checks x) → (seconds : ℕ) → lifetime_of (answered x) ≡ Some seconds
    → MayAnswer x (if seconds == 0 then Removes else Renews (seconds_after x.moment seconds))
unfolding MayAnswer
refresh_may x served response (by, (has_lifetime, (there, (usable, (own, (same_end, (signed, end))))))) seconds s =
    let user = authentic x by in (
      served,
      Refresh,
      record {
        response = response;
        user = user.0;
        authentic = user.2;
        seconds = seconds;
        lasts = s;
        allowed = allowed x there usable own same_end;
        signed = signed;
        changes = refl;
      },
    )

pub permission_may : (x : Situation) → IsServed x → IsResponse x Success CREATE_PERMISSION → AllHold (permission_checks x) → (ips : List ℕ) → peer_ips_of (arrival_parts x) ≡ Some ips
    → MayAnswer x (Grants ips (seconds_after x.moment 300))
unfolding MayAnswer
permission_may x served response (by, (there, (usable, (own, (some, (signed, end)))))) ips p =
    let user = authentic x by in (
      served,
      Permission,
      record {
        response = response;
        user = user.0;
        authentic = user.2;
        own = both_some x.allocation (λ a. UsableNow x a.until) (IsOwn x) usable own;
        ips = ips;
        names = p;
        some = has_some (peer_ips_of (arrival_parts x)) (λ l. 0 < length l) ips p some;
        signed = signed;
        changes = refl;
      },
    )

own_and : (x : Situation) (found : Option Allocation) (P : Allocation → Type 0) → IsSomeAnd found (λ a. UsableNow x a.until × Unit {0}) → IsSomeAnd found (IsOwn x) → IsSomeAnd found P
    → IsSomeAnd found (λ a. UsableNow x a.until × (IsOwn x a × P a))
own_and x (Some a) P u own p = (u.0, (own, p))
own_and x None P u own p = absurd u

pub channel_bind_may : (x : Situation) → IsServed x → IsResponse x Success CHANNEL_BIND → AllHold (channel_bind_checks x) → (number : ℕ) (peer : Addr) → channel_number_of (arrival_parts x) ≡ Some number
    → address_named XOR_PEER_ADDRESS (arrival_parts x) ≡ Some peer → MayAnswer x (Binds number peer (seconds_after x.moment 600) (seconds_after x.moment 300))
unfolding MayAnswer
channel_bind_may x served response (by, (there, (usable, (own, (in_range, (names, (may_bind, (signed, end)))))))) number peer n p =
    let user = authentic x by in
    let of_peer = has_some (address_named XOR_PEER_ADDRESS (arrival_parts x)) (λ one. IsSomeAnd (channel_number_of (arrival_parts x)) (λ k. WithAllocation x (NoConflict x k one))) peer p may_bind in
    let free = has_some (channel_number_of (arrival_parts x)) (λ k. WithAllocation x (NoConflict x k peer)) number n of_peer in (
      served,
      ChannelBind,
      record {
        response = response;
        user = user.0;
        authentic = user.2;
        number = number;
        has_number = n;
        in_range = has_some (channel_number_of (arrival_parts x)) IsChannelNumber number n in_range;
        peer = peer;
        names = p;
        own = own_and x x.allocation (NoConflict x number peer) usable own free;
        signed = signed;
        changes = refl;
      },
    )

send_relays : (x : Situation) (found : Option Allocation) → IsSomeAnd found (λ a. UsableNow x a.until × Unit {0}) → IsSomeAnd found (λ a. x.leaves.from ≡ a.relayed) → IsSomeAnd found (λ a. Permits x a x.leaves.to.ip)
    → IsSomeAnd found (λ a. UsableNow x a.until × ((x.leaves.from ≡ a.relayed) × Permits x a x.leaves.to.ip))
send_relays x (Some a) u r p = (u.0, (r, p))
send_relays x None u r p = absurd u

pub send_may : (x : Situation) → IsServed x → GoesUp x → IsOf x.arrives.payload Indication SEND → AllHold (send_checks x) → MayAnswer x Same
unfolding MayAnswer
send_may x served goes is (there, (usable, (relayed, (peer, (granted, (permitted, (sends, end))))))) = (
  served,
  Send,
  (
    record {
      goes = goes;
      indication = is;
      relays = send_relays x x.allocation usable relayed permitted;
      peer = peer;
      sends = sends;
    },
    refl,
  ),
)

data_relays : (x : Situation) (found : Option Allocation) → IsSomeAnd found (λ a. UsableNow x a.until × Unit {0}) → IsSomeAnd found (λ a. x.arrives.to ≡ a.relayed) → IsSomeAnd found (λ a. Permits x a x.arrives.from.ip)
    → IsSomeAnd found (λ a. UsableNow x a.until × ((x.arrives.to ≡ a.relayed) × Permits x a x.arrives.from.ip))
data_relays x (Some a) u r p = (u.0, (r, p))
data_relays x None u r p = absurd u

pub data_may : (x : Situation) → IsServed x → GoesDown x → IsOf x.leaves.payload Indication DATA_METHOD → AllHold (data_checks x) → MayAnswer x Same
unfolding MayAnswer
data_may x served goes is (has_peer, (has_data, (there, (usable, (relayed, (granted, (permitted, (peer, (sends, end))))))))) = (
  served,
  Data,
  (
    record {
      goes = goes;
      indication = is;
      relays = data_relays x x.allocation usable relayed permitted;
      peer = peer;
      sends = sends;
    },
    refl,
  ),
)

-- the channel of a number is there, to this peer, and usable
carried : (x : Situation) (channel : Option Channel) (peer : Addr) → IsSomeAnd channel (λ c. UsableNow x c.lease.until) → IsSomeAnd channel (λ c. c.peer ≡ peer) → IsSomeAnd channel (λ c. (c.peer ≡ peer) × UsableNow x c.lease.until)
carried x (Some c) peer u p = (p, u)
carried x None peer u p = absurd u

up_relays : (x : Situation) (found : Option Allocation) (number : ℕ) → IsSomeAnd found (λ a. UsableNow x a.until × Unit {0}) → IsSomeAnd found (λ a. x.leaves.from ≡ a.relayed)
    → IsSomeAnd found (λ a. IsSomeAnd (a.channels number) (λ c. UsableNow x c.lease.until)) → IsSomeAnd found (λ a. IsSomeAnd (a.channels number) (λ c. c.peer ≡ x.leaves.to))
    → IsSomeAnd found (λ a. UsableNow x a.until × ((x.leaves.from ≡ a.relayed) × Carries x a number x.leaves.to))
up_relays x (Some a) number u r c p = (u.0, (r, carried x (a.channels number) x.leaves.to c p))
up_relays x None number u r c p = absurd u

pub channel_up_may : (x : Situation) → IsServed x → GoesUp x → AllHold (channel_up_checks x) → (number : ℕ) (bytes : List ℕ) (past : ℕ) → channel_data_of x.arrives.payload ≡ Some (number, bytes, past) → MayAnswer x Same
unfolding MayAnswer
channel_up_may x served goes (there, (usable, (relayed, (bound, (lasting, (to_peer, (sends, end))))))) number bytes past said =
    let at : (P : ℕ → List ℕ → ℕ → Type 0) → SaysChannel x.arrives.payload P → P number bytes past = λ P h. has_some (channel_data_of x.arrives.payload) (λ s. P s.0 s.1 s.2) (number, bytes, past) said h in
    let sent : bytes ≡ x.leaves.payload = at (λ k b p. b ≡ x.leaves.payload) sends in (
      served,
      ChannelUp,
      (
        record {
          goes = goes;
          number = number;
          past = past;
          says = subst (λ b. channel_data_of x.arrives.payload ≡ Some (number, b, past)) sent said;
          relays = up_relays x x.allocation number usable relayed (at (λ k b p. WithAllocation x (λ a. IsSomeAnd (a.channels k) (λ c. UsableNow x c.lease.until))) lasting) (at (λ k b p. WithAllocation x (λ a. IsSomeAnd (a.channels k) (λ c. c.peer ≡ x.leaves.to))) to_peer);
        },
        refl,
      ),
    )

down_relays : (x : Situation) (found : Option Allocation) (number : ℕ) → IsSomeAnd found (λ a. UsableNow x a.until × Unit {0}) → IsSomeAnd found (λ a. x.arrives.to ≡ a.relayed) → IsSomeAnd found (λ a. Permits x a x.arrives.from.ip)
    → IsSomeAnd found (λ a. IsSomeAnd (a.channels number) (λ c. UsableNow x c.lease.until)) → IsSomeAnd found (λ a. IsSomeAnd (a.channels number) (λ c. c.peer ≡ x.arrives.from))
    → IsSomeAnd found (λ a. UsableNow x a.until × ((x.arrives.to ≡ a.relayed) × Permits x a x.arrives.from.ip × Carries x a number x.arrives.from))
down_relays x (Some a) number u r q c p = (u.0, (r, q, carried x (a.channels number) x.arrives.from c p))
down_relays x None number u r q c p = absurd u

pub channel_down_may : (x : Situation) → IsServed x → GoesDown x → AllHold (channel_down_checks x) → (number : ℕ) (bytes : List ℕ) (past : ℕ) → channel_data_of x.leaves.payload ≡ Some (number, bytes, past) → MayAnswer x Same
unfolding MayAnswer
channel_down_may x served goes (padding, (there, (usable, (relayed, (granted, (permitted, (bound, (lasting, (of_peer, (sends, end)))))))))) number bytes past said =
    let at : (P : ℕ → List ℕ → ℕ → Type 0) → SaysChannel x.leaves.payload P → P number bytes past = λ P h. has_some (channel_data_of x.leaves.payload) (λ s. P s.0 s.1 s.2) (number, bytes, past) said h in
    let sent : bytes ≡ x.arrives.payload = at (λ k b p. b ≡ x.arrives.payload) sends in (
      served,
      ChannelDown,
      (
        record {
          goes = goes;
          number = number;
          past = past;
          says = subst (λ b. channel_data_of x.leaves.payload ≡ Some (number, b, past)) sent said;
          padding = at (λ k b p. p ≤ 3) padding;
          relays = down_relays x x.allocation number usable relayed permitted (at (λ k b p. WithAllocation x (λ a. IsSomeAnd (a.channels k) (λ c. UsableNow x c.lease.until))) lasting) (at (λ k b p. WithAllocation x (λ a. IsSomeAnd (a.channels k) (λ c. c.peer ≡ x.arrives.from))) of_peer);
        },
        refl,
      ),
    )
