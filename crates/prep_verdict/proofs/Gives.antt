-- What a block of a packet gives, and what it leaves to the next block.
use Rattle.std.proofs.Common.{◌≡◌, ◌≤◌, ◌+◌, ◌-◌, ◌*◌, ◌^◌, ◌==◌, ℕ, zero, suc, Bool, true, false, cond, List, [], ◌∷◌, length, take, drop, Option, Some, None, Result, Ok, Err, refl, sym, ap, subst, ◌∙◌, arith}
use Rattle.std.specs.Prelude.{nat_lt}
use Rattle.std.specs.Int.{w32}
use Rattle.std.proofs.lemmas.Bool.{ltb-false}
use Rattle.std.proofs.lemmas.Option.{none-some, same_Some}
use Rattle.audit_pcapng.specs.declared.block_kind.BlockKind.{BlockKind}
use Rattle.audit_pcapng.specs.declared.block_kind.BlockKind.TheVariants as kinds
use Rattle.audit_pcapng.specs.declared.byte_order.ByteOrder.{ByteOrder}
use Rattle.audit_pcapng.specs.declared.heading.Heading.{Heading}
use Rattle.audit_pcapng.specs.declared.packet.Packet.{Packet}
use Rattle.audit_pcapng.specs.declared.scope.Scope.{Scope}
use Rattle.audit_pcapng.specs.declared.fault.CaptureFault.{CaptureFault}
use Rattle.audit_pcapng.specs.declared.fault.CaptureFault.TheVariants as faults
use Rattle.audit_pcapng.specs.Blocks.{statistics, packet, silent, content, block}
use Rattle.audit_pcapng.specs.Numbers.{number_at, padded}
use Rattle.audit_pcapng.specs.Options.{drop_count}
use Rattle.audit_pcapng.specs.Reading.{◌>>=◌}
use Rattle.audit_pcapng.specs.Sections.{section, description, interface_of}
use Rattle.audit_pcapng.specs.Stamps.{stamp_of}

-- ---- steps of a reading

bound : {A B : Type 0} → (read : Result A CaptureFault) (then : A → Result B CaptureFault) (y : B) → (read >>= then) ≡ Ok y → (x : A) × (read ≡ Ok x) × (then x ≡ Ok y)
bound (Ok x) then y e = (x, refl, e)
bound (Err fault) then y e = absurd (let k : Err fault ≡ Ok y = e in cc)

chosen : {A : Type 0} → (test : Bool) (fault : CaptureFault) (read : Result A CaptureFault) (y : A) → cond test (Err fault) read ≡ Ok y → (test ≡ false) × (read ≡ Ok y)
chosen true fault read y e = absurd (let k : Err fault ≡ Ok y = e in cc)
chosen false fault read y e = (refl, e)

kept : {A : Type 0} → (test : Bool) (fault : CaptureFault) (read : Result A CaptureFault) (y : A) → cond test read (Err fault) ≡ Ok y → read ≡ Ok y
kept true fault read y e = e
kept false fault read y e = absurd (let k : Err fault ≡ Ok y = e in cc)

ok_same : {A : Type 0} → (x y : A) (read : Result A CaptureFault) → read ≡ Ok x → read ≡ Ok y → x ≡ y
ok_same x y read e f = let k : Ok x ≡ Ok y = sym e ∙ f in cc

abbrev given_in : Result (Scope × Option Packet) CaptureFault → Option Packet
given_in (Ok both) = both.1
given_in (Err fault) = None

abbrev left_by : Scope → Result (Scope × Option Packet) CaptureFault → Scope
left_by scope (Ok both) = both.0
left_by scope (Err fault) = scope

gives_nothing : (read : Result Scope CaptureFault) (after : Scope) (p : Packet) → (read >>= silent) ≡ Ok (after, Some p) → ⊥
gives_nothing (Ok scope) after p e = none-some p (ap given_in e)
gives_nothing (Err fault) after p e = none-some p (ap given_in e)

-- ---- a packet's bytes

-- the packet's bytes stand behind 28 of these, and are there
pub record HasBytes (body : List ℕ) (p : Packet) : Type 0 where
  pub bytes : p.bytes ≡ take p.captured (drop 28 body)
  pub there : p.captured ≤ length (drop 28 body)

abbrev of_body : ByteOrder → List ℕ → ℕ → ℕ → Packet
of_body order body iface stamp = record { stamp = stamp; bytes = take (number_at order w32 20 body) (drop 28 body); iface = iface; captured = number_at order w32 20 body; original = number_at order w32 24 body }

made : (order : ByteOrder) (body : List ℕ) (iface stamp : ℕ) (p : Packet) → number_at order w32 20 body ≤ length (drop 28 body) → of_body order body iface stamp ≡ p → HasBytes body p
made order body iface stamp p few same = subst (HasBytes body) same (record { bytes = refl; there = few })

stamped : (order : ByteOrder) (body : List ℕ) (iface : ℕ) (read : Result ℕ CaptureFault) (p : Packet) → number_at order w32 20 body ≤ length (drop 28 body) → (read >>= λ stamp. Ok (of_body order body iface stamp)) ≡ Ok p → HasBytes body p
stamped order body iface (Ok stamp) p few e = made order body iface stamp p few (ok_same (of_body order body iface stamp) p (Ok (of_body order body iface stamp)) refl e)
stamped order body iface (Err fault) p few e = absurd (let k : Err fault ≡ Ok p = e in cc)

packet_has : (scope : Scope) (order : ByteOrder) (body : List ℕ) (p : Packet) → packet scope order body ≡ Ok p → HasBytes body p
unfolding packet
packet_has scope order body p e =
    let fits = chosen (nat_lt (length (drop 28 body)) (padded (number_at order w32 20 body))) faults.Length _ p e in
    let one = bound (interface_of scope (number_at order w32 8 body)) _ p fits.1 in
    let two = bound (drop_count order (drop (padded (number_at order w32 20 body)) (drop 28 body)) 4) _ p one.2 in
    let few : number_at order w32 20 body ≤ length (drop 28 body) = (let k = ltb-false (length (drop 28 body)) (padded (number_at order w32 20 body)) fits.0 in omega (arith, k)) in
    stamped order body one.0.0 (cond (two.0 == 0) (stamp_of one.0.1 (number_at order w32 12 body * 2 ^ 32 + number_at order w32 16 body)) (Err faults.Drops)) p few two.2

content_has : (kind : BlockKind) (scope after : Scope) (order : ByteOrder) (body : List ℕ) (p : Packet) → content kind scope order body ≡ Ok (after, Some p) → (after ≡ scope) × HasBytes body p
unfolding content
content_has kinds.Section scope after order body p e = absurd (gives_nothing (section scope order body) after p e)
content_has kinds.Interface scope after order body p e = absurd (gives_nothing (description scope order body) after p e)
content_has kinds.Statistics scope after order body p e = absurd (gives_nothing (statistics scope order body) after p e)
content_has kinds.Packet scope after order body p e =
    let one = bound (packet scope order body) (λ q. Ok (scope, Some q)) (after, Some p) e in
    let same : one.0 ≡ p = same_Some one.0 p (ap given_in one.2) in
    (sym (ap (left_by scope) one.2), packet_has scope order body p (one.1 ∙ ap (λ q. Ok q) same))
content_has kinds.NoStamp scope after order body p e = absurd (none-some p (ap given_in e))
content_has kinds.Other scope after order body p e = absurd (none-some p (ap given_in e))

-- ---- a front of a front

taken_twice : (n k : ℕ) (xs : List ℕ) → n ≤ length (take k xs) → take n (take k xs) ≡ take n xs
taken_twice zero k xs few = refl
taken_twice (suc n) zero xs few = absurd (omega (arith, few))
taken_twice (suc n) (suc k) [] few = refl
taken_twice (suc n) (suc k) (x ∷ xs) few = ap (λ (ys : List ℕ). x ∷ ys) (taken_twice n k xs (omega (arith, few)))

taken_behind : (n d k : ℕ) (xs : List ℕ) → n ≤ length (drop d (take k xs)) → take n (drop d (take k xs)) ≡ take n (drop d xs)
taken_behind n zero k xs few = taken_twice n k xs few
taken_behind zero (suc d) zero xs few = refl
taken_behind (suc n) (suc d) zero xs few = absurd (omega (arith, few))
taken_behind n (suc d) (suc k) [] few = refl
taken_behind n (suc d) (suc k) (x ∷ xs) few = taken_behind n d k xs few

-- a block that gives a packet leaves what there was, and the packet's bytes stand behind 28 of its own
pub block_has : (scope after : Scope) (head : Heading) (bytes : List ℕ) (p : Packet) → block scope head bytes ≡ Ok (after, Some p) → (after ≡ scope) × (p.bytes ≡ take p.captured (drop 28 bytes))
unfolding block
block_has scope after head bytes p e =
    let body = take (length bytes - 4) bytes in
    let has = content_has head.kind scope after head.order body p (kept (number_at head.order w32 (length bytes - 4) bytes == length bytes) faults.Length _ (after, Some p) e) in
    (has.0, has.1.bytes ∙ taken_behind p.captured 28 (length bytes - 4) bytes has.1.there)
