-- The bytes of a packet stand in its block.
use Rattle.std.proofs.Common.{◌≡◌, ℕ, zero, suc, ◌+◌, ◌-◌, ◌*◌, ◌^◌, ◌≤◌, Bool, true, false, cond, eqb, ltb, List, [], ◌∷◌, length, take, drop, Option, Some, None, Result, Ok, Err, refl, sym, ap, ◌∙◌, arith}
use Rattle.std.specs.Int.{w32}
use Rattle.std.proofs.lemmas.Bool.{ltb-false}
use Rattle.std.proofs.lemmas.List.{take-take, drop-take, length-drop}
use Rattle.audit_pcapng.specs.declared.block_kind.BlockKind.{BlockKind}
use Rattle.audit_pcapng.specs.declared.block_kind.BlockKind.TheVariants as kinds
use Rattle.audit_pcapng.specs.declared.byte_order.ByteOrder.{ByteOrder}
use Rattle.audit_pcapng.specs.declared.clock.Interface.{Interface}
use Rattle.audit_pcapng.specs.declared.packet.Packet.{Packet}
use Rattle.audit_pcapng.specs.declared.scope.Scope.{Scope}
use Rattle.audit_pcapng.specs.declared.fault.CaptureFault.{CaptureFault}
use Rattle.audit_pcapng.specs.declared.fault.CaptureFault.TheVariants as faults
use Rattle.audit_pcapng.specs.Numbers.{number_at, padded}
use Rattle.audit_pcapng.specs.Reading.{◌>>=◌}
use Rattle.audit_pcapng.specs.Options.{drop_count}
use Rattle.audit_pcapng.specs.Stamps.{stamp_of}
use Rattle.audit_pcapng.specs.Sections.{section, description, interface_of}
use Rattle.audit_pcapng.specs.Blocks.{statistics, packet, silent, content, block}
use Rattle.prep_blocks.specs.declared.block.Block.{Block}
use Rattle.prep_blocks.specs.Read.{IsRead, head_of}
use Rattle.prep_frames.specs.Frames.{frame_in}

bind_ok : {A B : Type 0} (r : Result A CaptureFault) (f : A → Result B CaptureFault) (y : B) → (r >>= f) ≡ Ok y → (x : A) × (r ≡ Ok x) × (f x ≡ Ok y)
bind_ok (Ok x) f y e = (x, refl, e)
bind_ok (Err fault) f y e = absurd cc

guarded : {A : Type 0} (test : Bool) (r : Result A CaptureFault) (fault : CaptureFault) (y : A) → cond test r (Err fault) ≡ Ok y → r ≡ Ok y
guarded true r fault y e = e
guarded false r fault y e = absurd cc

guarded_not : {A : Type 0} (test : Bool) (r : Result A CaptureFault) (fault : CaptureFault) (y : A) → cond test (Err fault) r ≡ Ok y → (test ≡ false) × (r ≡ Ok y)
guarded_not true r fault y e = absurd cc
guarded_not false r fault y e = (refl, e)

abbrev value_or : {A : Type 0} → Result A CaptureFault → A → A
value_or (Ok x) other = x
value_or (Err fault) other = other

same_value : {A : Type 0} (x y : A) → ◌≡◌ {A = Result A CaptureFault} (Ok x) (Ok y) → y ≡ x
same_value {A = A} x y e = sym (ap (λ (r : Result A CaptureFault). value_or r x) e)

abbrev some_or : Option Packet → Packet → Packet
some_or None other = other
some_or (Some p) other = p

abbrev shows : Result (Scope × Option Packet) CaptureFault → Bool
shows (Ok (scope, None)) = false
shows (Ok (scope, Some p)) = true
shows (Err fault) = false

none_is_some : (scope after : Scope) (p : Packet) → ◌≡◌ {A = Result (Scope × Option Packet) CaptureFault} (Ok (scope, None)) (Ok (after, Some p)) → ⊥
none_is_some scope after p e = let bad : false ≡ true = ap shows e in absurd cc

no_packet : (r : Result Scope CaptureFault) (after : Scope) (p : Packet) → (r >>= silent) ≡ Ok (after, Some p) → ⊥
no_packet (Ok scope) after p e = none_is_some scope after p e
no_packet (Err fault) after p e = absurd cc

of_packet : (kind : BlockKind) (scope after : Scope) (order : ByteOrder) (body : List ℕ) (p : Packet) → content kind scope order body ≡ Ok (after, Some p) → packet scope order body ≡ Ok p
unfolding content
of_packet kinds.Section scope after order body p e = absurd (no_packet (section scope order body) after p e)
of_packet kinds.Interface scope after order body p e = absurd (no_packet (description scope order body) after p e)
of_packet kinds.Statistics scope after order body p e = absurd (no_packet (statistics scope order body) after p e)
of_packet kinds.Packet scope after order body p e =
    let found = bind_ok (packet scope order body) (λ q. Ok (scope, Some q)) (after, Some p) e in
    let same : p ≡ found.0 = ap (λ (t : Scope × Option Packet). some_or t.1 p) (same_value (scope, Some found.0) (after, Some p) found.2) in
    found.1 ∙ ap Ok (sym same)
of_packet kinds.NoStamp scope after order body p e = absurd cc
of_packet kinds.Other scope after order body p e = absurd (none_is_some scope after p e)

abbrev stamped : Scope → ByteOrder → List ℕ → (ℕ × Interface) → ℕ → Result ℕ CaptureFault
stamped scope order body interface dropped = cond (eqb dropped 0) (stamp_of interface.1 (number_at order w32 12 body * 2 ^ 32 + number_at order w32 16 body)) (Err faults.Drops)

abbrev made : ByteOrder → List ℕ → (ℕ × Interface) → ℕ → Packet
made order body interface stamp =
    let captured = number_at order w32 20 body in
    record { stamp = stamp; bytes = take captured (drop 28 body); iface = interface.0; captured = captured; original = number_at order w32 24 body }

record Bytes (body : List ℕ) (p : Packet) : Type 0 where
  room : padded p.captured ≤ length (drop 28 body)
  bytes : p.bytes ≡ take p.captured (drop 28 body)

bytes_in : (scope : Scope) (order : ByteOrder) (body : List ℕ) (p : Packet) → packet scope order body ≡ Ok p → Bytes body p
unfolding packet
bytes_in scope order body p e =
    let captured = number_at order w32 20 body in
    let rest = λ (i : ℕ × Interface). drop_count order (drop (padded captured) (drop 28 body)) 4 >>= λ dropped. stamped scope order body i dropped >>= λ stamp. Ok (made order body i stamp) in
    let long = guarded_not (ltb (length (drop 28 body)) (padded captured)) (interface_of scope (number_at order w32 8 body) >>= rest) faults.Length p e in
    let one = bind_ok (interface_of scope (number_at order w32 8 body)) rest p long.1 in
    let two = bind_ok (drop_count order (drop (padded captured) (drop 28 body)) 4) (λ dropped. stamped scope order body one.0 dropped >>= λ stamp. Ok (made order body one.0 stamp)) p one.2 in
    let three = bind_ok (stamped scope order body one.0 two.0) (λ stamp. Ok (made order body one.0 stamp)) p two.2 in
    let same : p ≡ made order body one.0 three.0 = same_value (made order body one.0 three.0) p three.2 in
    rw same (record { room = ltb-false (length (drop 28 body)) (padded captured) long.0; bytes = refl })

padded_up : (n : ℕ) → n ≤ padded n
padded_up n = omega arith

length_taken : (n : ℕ) (xs : List ℕ) → length (take n xs) ≤ n
length_taken zero xs = omega arith
length_taken (suc n) [] = omega arith
length_taken (suc n) (x ∷ xs) = omega (arith, length_taken n xs)

front_is : (captured : ℕ) (bytes : List ℕ) → padded captured ≤ length (drop 28 (take (length bytes - 4) bytes)) → take captured (drop 28 (take (length bytes - 4) bytes)) ≡ take captured (drop 28 bytes)
front_is zero bytes room = refl
front_is (suc c) bytes room =
    let n = length bytes - 4 in
    let m = n - 28 in
    let least : suc c ≤ length (drop 28 (take n bytes)) = omega (arith, room, padded_up (suc c)) in
    let long : suc c + 28 ≤ n = omega (arith, least, length-drop 28 (take n bytes), length_taken n bytes) in
    let split : n ≡ 28 + m = omega (arith, long) in
    let within : suc c ≤ m = omega (arith, long) in
    ap (λ (k : ℕ). take (suc c) (drop 28 (take k bytes))) split ∙ ap (take (suc c)) (drop-take 28 m bytes) ∙ take-take (suc c) m (drop 28 bytes) within

pub packets_bytes : (scope after : Scope) (b : Block) (p : Packet) → IsRead scope b (Some p) after → frame_in b (head_of p) ≡ p.bytes
unfolding block
packets_bytes scope after b p read =
    let body = take (length b.bytes - 4) b.bytes in
    let held : content read.head.kind scope read.head.order body ≡ Ok (after, Some p) =
    guarded (eqb (number_at read.head.order w32 (length b.bytes - 4) b.bytes) (length b.bytes)) (content read.head.kind scope read.head.order body) faults.Length (after, Some p) read.taken in
    let told = bytes_in scope read.head.order body p (of_packet read.head.kind scope after read.head.order body p held) in
    sym (told.bytes ∙ front_is p.captured b.bytes told.room)
