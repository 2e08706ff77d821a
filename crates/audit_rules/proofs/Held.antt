-- Where the departure may answer so, all checks of its case hold.
use Rattle.std.proofs.Common.{◌≡◌, ◌≢◌, ◌⊎◌, inl, inr, ◌↔◌, ℕ, ◌<◌, ◌≤◌, List, Option, Some, None, refl, arith}
use Rattle.std.specs.Prelude.{IsSome, IsSomeAnd, length}
use Rattle.audit_stun.specs.declared.numbers.attribute.TheConstants.{XOR_MAPPED_ADDRESS, XOR_RELAYED_ADDRESS, XOR_PEER_ADDRESS, DATA}
use Rattle.audit_stun.specs.Counted.{first_of}
use Rattle.audit_stun.specs.ChannelData.{channel_data_of}
use Rattle.audit_rules.specs.Allocation.{Allocation, Change}
use Rattle.audit_rules.specs.Situation.{Situation, arrival_parts, answered}
use Rattle.audit_rules.specs.Values.{Names, address_named, code_of, lifetime_of, channel_number_of, peer_ips_of}
use Rattle.audit_keys.specs.Signed.{IsSigned}
use Rattle.audit_model.specs.declared.address.Addr.{Addr}
use Rattle.audit_rules.specs.Standing.{key_named, UsableNow, WithUsable, IsOwn, Permits, Carries}
use Rattle.audit_rules.specs.Responses.{AnswersBinding, AnswersError, Fits}
use Rattle.audit_rules.specs.Allocating.{AnswersNew, AnswersAgain, AnswersRefresh, MayBeRelayed, EndsNothing, IsRefreshed}
use Rattle.audit_rules.specs.Granting.{AnswersPermission, AnswersChannelBind, NoConflict, IsChannelNumber}
use Rattle.audit_rules.specs.Relaying.{AnswersSend, AnswersChannelUp, AnswersData, AnswersChannelDown}
use Rattle.audit_rules.specs.Check.{AllHold}
use Rattle.audit_rules.specs.Checks.{WithAllocation, SaysChannel, binding_checks, error_checks, new_checks, again_checks, refresh_checks, permission_checks, channel_bind_checks, send_checks, channel_up_checks, data_checks, channel_down_checks}
use Rattle.audit_rules.proofs.Facts.{some_is, some_has, and_some, map_some, by_user}

pub binding_held : (x : Situation) → AnswersBinding x → AllHold (binding_checks x)
binding_held x r = (some_is (address_named XOR_MAPPED_ADDRESS (answered x)) x.client r.mapped, (r.mapped, tt))

pub error_held : (x : Situation) → AnswersError x → AllHold (error_checks x)
error_held x r = (some_is (code_of (answered x)) r.code r.has_code, (some_has (code_of (answered x)) (Fits x) r.code r.has_code r.fits, tt))

not_zero : (n : ℕ) (time : Option ℕ) → time ≡ Some n → 0 < n → time ≢ Some 0
not_zero n time e more z =
    let zero : n ≡ 0 = cc in
    absurd (omega (arith, zero, more))

pub new_held : (x : Situation) (change : Change) → AnswersNew x change → AllHold (new_checks x)
new_held x change r =
    let relayed = address_named XOR_RELAYED_ADDRESS (answered x) in (
      by_user x r.user r.authentic,
      (
        r.free,
        (
          r.served,
          (
            some_is relayed r.relayed r.names_relayed,
            (
              some_is (lifetime_of (answered x)) r.seconds r.lasts.0,
              (
                some_is (address_named XOR_MAPPED_ADDRESS (answered x)) x.client r.mapped,
                (
                  some_has relayed (MayBeRelayed x) r.relayed r.names_relayed r.in_range,
                  (not_zero r.seconds (lifetime_of (answered x)) r.lasts.0 r.lasts.1, (r.mapped, (r.signed, tt))),
                ),
              ),
            ),
          ),
        ),
      ),
    )

same_names : (x : Situation) (found : Option Allocation) → IsSomeAnd found (λ a. UsableNow x a.until × ((a.id ≡ (arrival_parts x).tid) × IsOwn x a × Names XOR_RELAYED_ADDRESS (answered x) a.relayed))
    → IsSome (address_named XOR_RELAYED_ADDRESS (answered x))
same_names x (Some a) h = some_is (address_named XOR_RELAYED_ADDRESS (answered x)) a.relayed h.1.2
same_names x None h = absurd h

pub again_held : (x : Situation) → AnswersAgain x → AllHold (again_checks x)
again_held x r = (
  by_user x r.user r.authentic,
  (
    map_some x.allocation (λ a. UsableNow x a.until × ((a.id ≡ (arrival_parts x).tid) × IsOwn x a × Names XOR_RELAYED_ADDRESS (answered x) a.relayed)) (IsOwn x) (λ a h. h.1.1) r.same,
    (
      same_names x x.allocation r.same,
      (
        some_is (address_named XOR_MAPPED_ADDRESS (answered x)) x.client r.mapped,
        (
          map_some x.allocation (λ a. UsableNow x a.until × ((a.id ≡ (arrival_parts x).tid) × IsOwn x a × Names XOR_RELAYED_ADDRESS (answered x) a.relayed)) (λ a. Names XOR_RELAYED_ADDRESS (answered x) a.relayed) (λ a h. h.1.2) r.same,
          (r.mapped, (r.signed, tt)),
        ),
      ),
    ),
  ),
)

-- of what is usable and has a fact
there : (x : Situation) (P : Allocation → Type 0) → WithUsable x P → IsSome x.allocation
there x P h = and_some x.allocation (λ a. UsableNow x a.until × P a) h

usable : (x : Situation) (P : Allocation → Type 0) → WithUsable x P → WithUsable x (λ a. Unit {0})
usable x P h = map_some x.allocation (λ a. UsableNow x a.until × P a) (λ a. UsableNow x a.until × Unit {0}) (λ a p. (p.0, tt)) h

fact : (x : Situation) (P Q : Allocation → Type 0) → ((a : Allocation) → P a → Q a) → WithUsable x P → WithAllocation x Q
fact x P Q f h = map_some x.allocation (λ a. UsableNow x a.until × P a) Q (λ a p. f a p.1) h

pub refresh_held : (x : Situation) (change : Change) → AnswersRefresh x change → AllHold (refresh_checks x)
refresh_held x change r = (by_user x r.user r.authentic, (some_is (lifetime_of (answered x)) r.seconds r.lasts, more r.allowed))
  where
    more : EndsNothing x ⊎ IsRefreshed x → (EndsNothing x ⊎ IsSome x.allocation) × ((EndsNothing x ⊎ WithUsable x (λ a. Unit {0})) × ((EndsNothing x ⊎ WithAllocation x (IsOwn x)) × ((EndsNothing x ⊎ ((lifetime_of (arrival_parts x) ≡ Some 0) ↔ (lifetime_of (answered x) ≡ Some 0))) × (IsSomeAnd (key_named x.key_for (arrival_parts x)) (IsSigned x.leaves.payload) × Unit {0}))))
    more (inl e) = (inl e, (inl e, (inl e, (inl e, (r.signed, tt)))))
    more (inr f) = (inr (there x (IsOwn x) f.0), (inr (usable x (IsOwn x) f.0), (inr (fact x (IsOwn x) (IsOwn x) (λ a o. o) f.0), (inr f.1, (r.signed, tt)))))

pub permission_held : (x : Situation) (change : Change) → AnswersPermission x change → AllHold (permission_checks x)
permission_held x change r = (
  by_user x r.user r.authentic,
  (
    there x (IsOwn x) r.own,
    (
      usable x (IsOwn x) r.own,
      (
        fact x (IsOwn x) (IsOwn x) (λ a o. o) r.own,
        (some_has (peer_ips_of (arrival_parts x)) (λ ips. 0 < length ips) r.ips r.names r.some, (r.signed, tt)),
      ),
    ),
  ),
)

pub channel_bind_held : (x : Situation) (change : Change) → AnswersChannelBind x change → AllHold (channel_bind_checks x)
channel_bind_held x change r =
    let peer = address_named XOR_PEER_ADDRESS (arrival_parts x) in
    let number = channel_number_of (arrival_parts x) in
    let P : Allocation → Type 0 = λ a. IsOwn x a × NoConflict x r.number r.peer a in (
      by_user x r.user r.authentic,
      (
        there x P r.own,
        (
          usable x P r.own,
          (
            fact x P (IsOwn x) (λ a o. o.0) r.own,
            (
              some_has number IsChannelNumber r.number r.has_number r.in_range,
              (
                some_is peer r.peer r.names,
                (
                  some_has peer (λ one. IsSomeAnd number (λ k. WithAllocation x (NoConflict x k one))) r.peer r.names
                      (some_has number (λ k. WithAllocation x (NoConflict x k r.peer)) r.number r.has_number (fact x P (NoConflict x r.number r.peer) (λ a o. o.1) r.own)),
                  (r.signed, tt),
                ),
              ),
            ),
          ),
        ),
      ),
    )

permitted : (x : Situation) (a : Allocation) (ip : ℕ) → Permits x a ip → IsSome (a.permissions ip)
permitted x a ip h = and_some (a.permissions ip) (λ lease. UsableNow x lease.until) h

pub send_held : (x : Situation) → AnswersSend x → AllHold (send_checks x)
send_held x r =
    let P : Allocation → Type 0 = λ a. (x.leaves.from ≡ a.relayed) × Permits x a x.leaves.to.ip in (
      there x P r.relays,
      (
        usable x P r.relays,
        (
          fact x P (λ a. x.leaves.from ≡ a.relayed) (λ a p. p.0) r.relays,
          (
            r.peer,
            (
              fact x P (λ a. IsSome (a.permissions x.leaves.to.ip)) (λ a p. permitted x a x.leaves.to.ip p.1) r.relays,
              (fact x P (λ a. Permits x a x.leaves.to.ip) (λ a p. p.1) r.relays, (r.sends, tt)),
            ),
          ),
        ),
      ),
    )

pub data_held : (x : Situation) → AnswersData x → AllHold (data_checks x)
data_held x r =
    let P : Allocation → Type 0 = λ a. (x.arrives.to ≡ a.relayed) × Permits x a x.arrives.from.ip in (
      some_is (address_named XOR_PEER_ADDRESS (answered x)) x.arrives.from r.peer,
      (
        some_is (first_of DATA (answered x).attributes) x.arrives.payload r.sends,
        (
          there x P r.relays,
          (
            usable x P r.relays,
            (
              fact x P (λ a. x.arrives.to ≡ a.relayed) (λ a p. p.0) r.relays,
              (
                fact x P (λ a. IsSome (a.permissions x.arrives.from.ip)) (λ a p. permitted x a x.arrives.from.ip p.1) r.relays,
                (fact x P (λ a. Permits x a x.arrives.from.ip) (λ a p. p.1) r.relays, (r.peer, (r.sends, tt))),
              ),
            ),
          ),
        ),
      ),
    )

carries_some : (x : Situation) (a : Allocation) (number : ℕ) (peer : Addr) → Carries x a number peer → IsSome (a.channels number)
carries_some x a number peer h = and_some (a.channels number) (λ c. (c.peer ≡ peer) × UsableNow x c.lease.until) h

carries_usable : (x : Situation) (a : Allocation) (number : ℕ) (peer : Addr) → Carries x a number peer → IsSomeAnd (a.channels number) (λ c. UsableNow x c.lease.until)
carries_usable x a number peer h = map_some (a.channels number) (λ c. (c.peer ≡ peer) × UsableNow x c.lease.until) (λ c. UsableNow x c.lease.until) (λ c p. p.1) h

carries_peer : (x : Situation) (a : Allocation) (number : ℕ) (peer : Addr) → Carries x a number peer → IsSomeAnd (a.channels number) (λ c. c.peer ≡ peer)
carries_peer x a number peer h = map_some (a.channels number) (λ c. (c.peer ≡ peer) × UsableNow x c.lease.until) (λ c. c.peer ≡ peer) (λ c p. p.0) h

says : (payload : List ℕ) (number : ℕ) (bytes : List ℕ) (past : ℕ) (P : ℕ → List ℕ → ℕ → Type 0) → channel_data_of payload ≡ Some (number, bytes, past) → P number bytes past → SaysChannel payload P
says payload number bytes past P e p = some_has (channel_data_of payload) (λ s. P s.0 s.1 s.2) (number, bytes, past) e p

pub channel_up_held : (x : Situation) → AnswersChannelUp x → AllHold (channel_up_checks x)
channel_up_held x r =
    let P : Allocation → Type 0 = λ a. (x.leaves.from ≡ a.relayed) × Carries x a r.number x.leaves.to in
    let at = says x.arrives.payload r.number x.leaves.payload r.past in (
      there x P r.relays,
      (
        usable x P r.relays,
        (
          fact x P (λ a. x.leaves.from ≡ a.relayed) (λ a p. p.0) r.relays,
          (
            at (λ k b p. WithAllocation x (λ a. IsSome (a.channels k))) r.says (fact x P (λ a. IsSome (a.channels r.number)) (λ a p. carries_some x a r.number x.leaves.to p.1) r.relays),
            (
              at (λ k b p. WithAllocation x (λ a. IsSomeAnd (a.channels k) (λ c. UsableNow x c.lease.until))) r.says (fact x P (λ a. IsSomeAnd (a.channels r.number) (λ c. UsableNow x c.lease.until)) (λ a p. carries_usable x a r.number x.leaves.to p.1) r.relays),
              (
                at (λ k b p. WithAllocation x (λ a. IsSomeAnd (a.channels k) (λ c. c.peer ≡ x.leaves.to))) r.says (fact x P (λ a. IsSomeAnd (a.channels r.number) (λ c. c.peer ≡ x.leaves.to)) (λ a p. carries_peer x a r.number x.leaves.to p.1) r.relays),
                (at (λ k b p. b ≡ x.leaves.payload) r.says refl, tt),
              ),
            ),
          ),
        ),
      ),
    )

pub channel_down_held : (x : Situation) → AnswersChannelDown x → AllHold (channel_down_checks x)
channel_down_held x r =
    let P : Allocation → Type 0 = λ a. (x.arrives.to ≡ a.relayed) × Permits x a x.arrives.from.ip × Carries x a r.number x.arrives.from in
    let at = says x.leaves.payload r.number x.arrives.payload r.past in (
      at (λ k b p. p ≤ 3) r.says r.padding,
      (
        there x P r.relays,
        (
          usable x P r.relays,
          (
            fact x P (λ a. x.arrives.to ≡ a.relayed) (λ a p. p.0) r.relays,
            (
              fact x P (λ a. IsSome (a.permissions x.arrives.from.ip)) (λ a p. permitted x a x.arrives.from.ip p.1) r.relays,
              (
                fact x P (λ a. Permits x a x.arrives.from.ip) (λ a p. p.1) r.relays,
                (
                  at (λ k b p. WithAllocation x (λ a. IsSome (a.channels k))) r.says (fact x P (λ a. IsSome (a.channels r.number)) (λ a p. carries_some x a r.number x.arrives.from p.2) r.relays),
                  (
                    at (λ k b p. WithAllocation x (λ a. IsSomeAnd (a.channels k) (λ c. UsableNow x c.lease.until))) r.says (fact x P (λ a. IsSomeAnd (a.channels r.number) (λ c. UsableNow x c.lease.until)) (λ a p. carries_usable x a r.number x.arrives.from p.2) r.relays),
                    (
                      at (λ k b p. WithAllocation x (λ a. IsSomeAnd (a.channels k) (λ c. c.peer ≡ x.arrives.from))) r.says (fact x P (λ a. IsSomeAnd (a.channels r.number) (λ c. c.peer ≡ x.arrives.from)) (λ a p. carries_peer x a r.number x.arrives.from p.2) r.relays),
                      (at (λ k b p. b ≡ x.arrives.payload) r.says refl, tt),
                    ),
                  ),
                ),
              ),
            ),
          ),
        ),
      ),
    )
