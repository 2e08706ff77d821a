-- A block shows no other faults than those of blocks.
use Rattle.std.proofs.Common.{◌≡◌, ℕ, zero, suc, ◌+◌, ◌-◌, ◌*◌, ◌^◌, ◌%◌, Bool, true, false, not, ◌&&◌, ◌||◌, cond, eqb, ltb, leb, List, [], ◌∷◌, length, take, drop, ℤ, pos, negsuc, ◌+ℤ◌, ◌*ℤ◌, Option, Some, None, Result, Ok, Err, slice_get, subst}
use Rattle.std.specs.Int.{w16, w32}
use Rattle.audit_pcapng.specs.declared.byte_order.ByteOrder.{ByteOrder}
use Rattle.audit_pcapng.specs.declared.byte_order.ByteOrder.TheVariants.{Little, Big}
use Rattle.audit_pcapng.specs.declared.block_kind.BlockKind.{BlockKind}
use Rattle.audit_pcapng.specs.declared.block_kind.BlockKind.TheVariants as kinds
use Rattle.audit_pcapng.specs.declared.clock.Interface.{Interface}
use Rattle.audit_pcapng.specs.declared.heading.Heading.{Heading}
use Rattle.audit_pcapng.specs.declared.packet.Packet.{Packet}
use Rattle.audit_pcapng.specs.declared.scope.Scope.{Scope}
use Rattle.audit_pcapng.specs.declared.fault.CaptureFault.{CaptureFault}
use Rattle.audit_pcapng.specs.declared.fault.CaptureFault.TheVariants as faults
use Rattle.audit_pcapng.specs.Faults.{IsOfBlocks}
use Rattle.audit_pcapng.specs.Reading.{◌>>=◌}
use Rattle.audit_pcapng.specs.Numbers.{number_at, padded}
use Rattle.audit_pcapng.specs.Headings.{kind_of, least_length, heading_of, some_heading, section_heading, block_heading, heading}
use Rattle.audit_pcapng.specs.Options.{options, first_option, number_of, number_option, drop_count}
use Rattle.audit_pcapng.specs.Stamps.{moment, stamp_of}
use Rattle.audit_pcapng.specs.Clocks.{resolution_of, resolution, clock}
use Rattle.audit_pcapng.specs.Sections.{section, with_interface, description, described, interface_of}
use Rattle.audit_pcapng.specs.Blocks.{statistics, packet, silent, content, block}
use Rattle.audit_pcapng.specs.Captures.{FirstFault, Shows}

abbrev OfBlocks : {A : Type 0} → Result A CaptureFault → Type 0
OfBlocks (Ok x) = Unit {0}
OfBlocks (Err fault) = IsOfBlocks fault

then_ok : {A B : Type 0} (r : Result A CaptureFault) (f : A → Result B CaptureFault) → OfBlocks r → ((x : A) → OfBlocks (f x)) → OfBlocks (r >>= f)
then_ok (Ok x) f one two = two x
then_ok (Err fault) f one two = one

either : {A : Type 0} (test : Bool) (r s : Result A CaptureFault) → OfBlocks r → OfBlocks s → OfBlocks (cond test r s)
either true r s one two = one
either false r s one two = two

options_of : (n : ℕ) (order : ByteOrder) (list : List ℕ) → OfBlocks (options n order list)
unfolding options
options_of zero order list = tt
options_of (suc n) order list =
    either (eqb (length list) 0) _ _ tt (either (ltb (length list) 4) _ _ tt (either (eqb (number_at order w16 0 list) 0) _ _ tt
    (either (ltb (length (drop 4 list)) (padded (number_at order w16 2 list))) _ _ tt
    (then_ok (options n order (drop (padded (number_at order w16 2 list)) (drop 4 list))) _ (options_of n order (drop (padded (number_at order w16 2 list)) (drop 4 list))) (λ others. tt)))))

first_option_of : (order : ByteOrder) (list : List ℕ) (code : ℕ) → OfBlocks (first_option order list code)
unfolding first_option
first_option_of order list code = then_ok (options (length list) order list) _ (options_of (length list) order list) (λ found. tt)

number_of_of : (order : ByteOrder) (found : Option (List ℕ)) → OfBlocks (number_of order found)
number_of_of order None = tt
number_of_of order (Some value) = either (eqb (length value) 8) _ _ tt tt

number_option_of : (order : ByteOrder) (list : List ℕ) (code : ℕ) → OfBlocks (number_option order list code)
unfolding number_option
number_option_of order list code = then_ok (first_option order list code) (number_of order) (first_option_of order list code) (number_of_of order)

drop_count_of : (order : ByteOrder) (list : List ℕ) (code : ℕ) → OfBlocks (drop_count order list code)
unfolding drop_count
drop_count_of order list code = then_ok (number_option order list code) _ (number_option_of order list code) (λ count. tt)

moment_of : (z : ℤ) → OfBlocks (moment z)
moment_of (pos n) = either (ltb n (2 ^ 64)) _ _ tt tt
moment_of (negsuc n) = tt

stamp_of_of : (interface : Interface) (ticks : ℕ) → OfBlocks (stamp_of interface ticks)
unfolding stamp_of
stamp_of_of interface ticks = moment_of (pos (ticks * 10 ^ (9 - interface.resolution)) +ℤ (interface.offset *ℤ pos (10 ^ 9)))

resolution_of_of : (found : Option (List ℕ)) → OfBlocks (resolution_of found)
resolution_of_of None = tt
resolution_of_of (Some []) = tt
resolution_of_of (Some (digits ∷ [])) = tt
resolution_of_of (Some (digits ∷ more ∷ others)) = tt

resolution_is_of : (order : ByteOrder) (list : List ℕ) → OfBlocks (resolution order list)
unfolding resolution
resolution_is_of order list = then_ok (first_option order list 9) resolution_of (first_option_of order list 9) resolution_of_of

clock_of : (order : ByteOrder) (list : List ℕ) → OfBlocks (clock order list)
unfolding clock
clock_of order list = then_ok (resolution order list) _ (resolution_is_of order list) (λ digits. then_ok (number_option order list 14) _ (number_option_of order list 14) (λ seconds. tt))

section_of : (scope : Scope) (order : ByteOrder) (body : List ℕ) → OfBlocks (section scope order body)
unfolding section
section_of scope order body = either (eqb (number_at order w16 12 body) 1) _ _ tt tt

with_interface_of : (scope : Scope) (interface : Interface) → OfBlocks (with_interface scope interface)
with_interface_of scope interface = either (ltb 9 interface.resolution) _ _ tt (either (leb 64 (length scope.interfaces)) _ _ tt tt)

description_of : (scope : Scope) (order : ByteOrder) (body : List ℕ) → OfBlocks (description scope order body)
unfolding description
description_of scope order body = either (eqb (number_at order w16 8 body) 1) _ _ (then_ok (clock order (drop 16 body)) (with_interface scope) (clock_of order (drop 16 body)) (with_interface_of scope)) tt

described_of : (number : ℕ) (found : Option Interface) → OfBlocks (described number found)
described_of number None = tt
described_of number (Some interface) = tt

interface_of_of : (scope : Scope) (id : ℕ) → OfBlocks (interface_of scope id)
unfolding interface_of
interface_of_of scope id = described_of (scope.earlier + id) (slice_get scope.interfaces (scope.earlier + id))

statistics_of : (scope : Scope) (order : ByteOrder) (body : List ℕ) → OfBlocks (statistics scope order body)
unfolding statistics
statistics_of scope order body =
    then_ok (interface_of scope (number_at order w32 8 body)) _ (interface_of_of scope (number_at order w32 8 body)) (λ i.
    then_ok (drop_count order (drop 20 body) 5) _ (drop_count_of order (drop 20 body) 5) (λ a.
    then_ok (drop_count order (drop 20 body) 7) _ (drop_count_of order (drop 20 body) 7) (λ b. either (eqb a 0 && eqb b 0) _ _ tt tt)))

packet_of : (scope : Scope) (order : ByteOrder) (body : List ℕ) → OfBlocks (packet scope order body)
unfolding packet
packet_of scope order body =
    let captured = number_at order w32 20 body in
    let options = drop (padded captured) (drop 28 body) in
    either (ltb (length (drop 28 body)) (padded captured)) _ _ tt (
    then_ok (interface_of scope (number_at order w32 8 body)) _ (interface_of_of scope (number_at order w32 8 body)) (λ i.
    then_ok (drop_count order options 4) _ (drop_count_of order options 4) (λ dropped.
    then_ok (cond (eqb dropped 0) (stamp_of i.1 (number_at order w32 12 body * 2 ^ 32 + number_at order w32 16 body)) (Err faults.Drops)) _
    (either (eqb dropped 0) _ _ (stamp_of_of i.1 (number_at order w32 12 body * 2 ^ 32 + number_at order w32 16 body)) tt) (λ stamp. tt))))

content_of : (kind : BlockKind) (scope : Scope) (order : ByteOrder) (body : List ℕ) → OfBlocks (content kind scope order body)
unfolding content
content_of kinds.Section scope order body = then_ok (section scope order body) silent (section_of scope order body) (λ s. tt)
content_of kinds.Interface scope order body = then_ok (description scope order body) silent (description_of scope order body) (λ s. tt)
content_of kinds.Statistics scope order body = then_ok (statistics scope order body) silent (statistics_of scope order body) (λ s. tt)
content_of kinds.Packet scope order body = then_ok (packet scope order body) _ (packet_of scope order body) (λ p. tt)
content_of kinds.NoStamp scope order body = tt
content_of kinds.Other scope order body = tt

block_of : (scope : Scope) (head : Heading) (bytes : List ℕ) → OfBlocks (block scope head bytes)
unfolding block
block_of scope head bytes = either (eqb (number_at head.order w32 (length bytes - 4) bytes) (length bytes)) _ _ (content_of head.kind scope head.order (take (length bytes - 4) bytes)) tt

heading_of_of : (kind : BlockKind) (order : ByteOrder) (bytes : List ℕ) → OfBlocks (heading_of kind order bytes)
unfolding heading_of
heading_of_of kind order bytes = either (not (eqb (number_at order w32 4 bytes % 4) 0) || ltb (number_at order w32 4 bytes) (least_length kind)) _ _ tt (either (ltb 16777216 (number_at order w32 4 bytes)) _ _ tt tt)

some_heading_of : (read : Result Heading CaptureFault) → OfBlocks read → OfBlocks (some_heading read)
some_heading_of (Ok head) h = h
some_heading_of (Err fault) h = h

section_heading_of : (bytes : List ℕ) → OfBlocks (section_heading bytes)
unfolding section_heading
section_heading_of bytes =
    either (ltb (length bytes) 12) _ _ tt (
    either (eqb (number_at Little w32 8 bytes) 0x1A2B3C4D) _ _ (some_heading_of (heading_of kinds.Section Little bytes) (heading_of_of kinds.Section Little bytes)) (
    either (eqb (number_at Big w32 8 bytes) 0x1A2B3C4D) _ _ (some_heading_of (heading_of kinds.Section Big bytes) (heading_of_of kinds.Section Big bytes)) tt))

block_heading_of : (section : Option ByteOrder) (bytes : List ℕ) → OfBlocks (block_heading section bytes)
unfolding block_heading
block_heading_of None bytes = tt
block_heading_of (Some order) bytes =
    either (ltb (length bytes) 8) _ _ tt (some_heading_of (heading_of (kind_of (number_at order w32 0 bytes)) order bytes) (heading_of_of (kind_of (number_at order w32 0 bytes)) order bytes))

heading_is_of : (section : Option ByteOrder) (bytes : List ℕ) → OfBlocks (heading section bytes)
unfolding heading
heading_is_of section bytes = either (ltb (length bytes) 4) _ _ tt (either (eqb (number_at Big w32 0 bytes) 0x0A0D0D0A) _ _ (section_heading_of bytes) (block_heading_of section bytes))

at_fault : {A : Type 0} (read : Result A CaptureFault) (fault : CaptureFault) → read ≡ Err fault → OfBlocks read → IsOfBlocks fault
at_fault {A = A} read fault e h = subst (λ (r : Result A CaptureFault). OfBlocks r) e h

shows_of : (scope : Scope) (read : Result (Option Heading) CaptureFault) (rest : List ℕ) (fault : CaptureFault) → OfBlocks read → Shows scope read rest fault → IsOfBlocks fault
shows_of scope (Ok None) rest fault h shows = absurd shows
shows_of scope (Ok (Some head)) rest fault h shows = at_fault (block scope head (take head.length rest)) fault shows.1 (block_of scope head (take head.length rest))
shows_of scope (Err shown) rest fault h shows = subst IsOfBlocks shows h

pub faults_of_blocks : (text : List ℕ) (packets : List Packet) (fault : CaptureFault) → FirstFault text packets fault → IsOfBlocks fault
faults_of_blocks text packets fault first = shows_of first.scope (heading first.scope.order first.rest) first.rest fault (heading_is_of first.scope.order first.rest) first.faulty
