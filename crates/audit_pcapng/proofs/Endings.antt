-- A section begins a capture that has any block.
use Rattle.std.proofs.Common.{◌≡◌, ◌≢◌, ℕ, ◌<◌, Bool, true, false, not, cond, eqb, ltb, leb, ◌&&◌, ◌||◌, ◌-◌, ◌%◌, drop, List, [], ◌∷◌, ◌++◌, length, take, Option, Some, None, Result, Ok, Err, refl, sym, ap, ◌∙◌, inl, inr, arith}
use Rattle.std.specs.Int.{w16, w32}
use Rattle.std.specs.Option.{is_some}
use Rattle.std.specs.List.{concat}
use Rattle.std.proofs.lemmas.Bool.{cases_lt}
use Rattle.std.proofs.lemmas.List.{length-append}
use Rattle.audit_pcapng.specs.declared.byte_order.ByteOrder.{ByteOrder}
use Rattle.audit_pcapng.specs.declared.byte_order.ByteOrder.TheVariants.{Little, Big}
use Rattle.audit_pcapng.specs.declared.block_kind.BlockKind.{BlockKind}
use Rattle.audit_pcapng.specs.declared.block_kind.BlockKind.TheVariants as kinds
use Rattle.audit_pcapng.specs.declared.heading.Heading.{Heading}
use Rattle.audit_pcapng.specs.declared.packet.Packet.{Packet}
use Rattle.audit_pcapng.specs.declared.scope.Scope.{Scope}
use Rattle.audit_pcapng.specs.declared.fault.CaptureFault.{CaptureFault}
use Rattle.audit_pcapng.specs.declared.fault.CaptureFault.TheVariants as faults
use Rattle.audit_pcapng.specs.Reading.{◌>>=◌}
use Rattle.audit_pcapng.specs.Numbers.{number_at}
use Rattle.audit_pcapng.specs.Headings.{heading, section_heading, block_heading, heading_of, some_heading, least_length}
use Rattle.audit_pcapng.specs.Clocks.{clock}
use Rattle.audit_pcapng.specs.Options.{drop_count}
use Rattle.audit_pcapng.specs.Sections.{no_blocks, section, description, with_interface, interface_of}
use Rattle.audit_pcapng.specs.Blocks.{statistics, packet, silent, content, block}
use Rattle.audit_pcapng.specs.Captures.{IsBlock, Blocks}
use Rattle.audit_pcapng.proofs.Prefixes.{heading_short, heading_long}

-- the value of a step that did not fail
bind_ok : {A B : Type 0} (r : Result A CaptureFault) (f : A → Result B CaptureFault) (y : B) → (r >>= f) ≡ Ok y → (x : A) × (r ≡ Ok x) × (f x ≡ Ok y)
bind_ok (Ok x) f y e = (x, refl, e)
bind_ok (Err fault) f y e = absurd cc

-- a test that did not fail
guarded : {A : Type 0} (test : Bool) (r : Result A CaptureFault) (fault : CaptureFault) (y : A) → cond test r (Err fault) ≡ Ok y → r ≡ Ok y
guarded true r fault y e = e
guarded false r fault y e = absurd cc

-- the byte order after a block of a kind
abbrev pub order_after : BlockKind → Scope → ByteOrder → Option ByteOrder
order_after kinds.Section scope order = Some order
order_after kinds.Interface scope order = scope.order
order_after kinds.Statistics scope order = scope.order
order_after kinds.Packet scope order = scope.order
order_after kinds.NoStamp scope order = scope.order
order_after kinds.Other scope order = scope.order

guarded_not : {A : Type 0} (test : Bool) (r : Result A CaptureFault) (fault : CaptureFault) (y : A) → cond test (Err fault) r ≡ Ok y → r ≡ Ok y
guarded_not true r fault y e = absurd cc
guarded_not false r fault y e = e

abbrev value_or : {A : Type 0} → Result A CaptureFault → A → A
value_or (Ok x) other = x
value_or (Err fault) other = other

same_value : {A : Type 0} (x y : A) → ◌≡◌ {A = Result A CaptureFault} (Ok x) (Ok y) → y ≡ x
same_value {A = A} x y e = sym (ap (λ (r : Result A CaptureFault). value_or r x) e)

section_order : (scope after : Scope) (order : ByteOrder) (body : List ℕ) → section scope order body ≡ Ok after → after.order ≡ Some order
unfolding section
section_order scope after order body e =
    let made : Scope = record { interfaces = scope.interfaces; earlier = length scope.interfaces; order = Some order } in
    ap (λ (s : Scope). s.order) (same_value made after (guarded (eqb (number_at order w16 12 body) 1) (Ok made) faults.Version after e))

description_order : (scope after : Scope) (order : ByteOrder) (body : List ℕ) → description scope order body ≡ Ok after → after.order ≡ scope.order
unfolding description
description_order scope after order body e =
    let found = bind_ok (clock order (drop 16 body)) (with_interface scope) after (guarded (eqb (number_at order w16 8 body) 1) (clock order (drop 16 body) >>= with_interface scope) faults.LinkType after e) in
    let made : Scope = record { interfaces = scope.interfaces ++ found.0 ∷ []; earlier = scope.earlier; order = scope.order } in
    let inner = guarded_not (ltb 9 found.0.resolution) (cond (leb 64 (length scope.interfaces)) (Err faults.Limit) (Ok made)) faults.Resolution after found.2 in
    ap (λ (s : Scope). s.order) (same_value made after (guarded_not (leb 64 (length scope.interfaces)) (Ok made) faults.Limit after inner))

statistics_scope : (scope after : Scope) (order : ByteOrder) (body : List ℕ) → statistics scope order body ≡ Ok after → after ≡ scope
unfolding statistics
statistics_scope scope after order body e =
    let one = bind_ok (interface_of scope (number_at order w32 8 body)) (λ i. drop_count order (drop 20 body) 5 >>= λ a. drop_count order (drop 20 body) 7 >>= λ b. cond ((eqb a 0) && (eqb b 0)) (Ok scope) (Err faults.Drops)) after e in
    let two = bind_ok (drop_count order (drop 20 body) 5) (λ a. drop_count order (drop 20 body) 7 >>= λ b. cond ((eqb a 0) && (eqb b 0)) (Ok scope) (Err faults.Drops)) after one.2 in
    let three = bind_ok (drop_count order (drop 20 body) 7) (λ b. cond ((eqb two.0 0) && (eqb b 0)) (Ok scope) (Err faults.Drops)) after two.2 in
    same_value scope after (guarded ((eqb two.0 0) && (eqb three.0 0)) (Ok scope) faults.Drops after three.2)

first_same : (x after : Scope) (g given : Option Packet) → ◌≡◌ {A = Result (Scope × Option Packet) CaptureFault} (Ok (x, g)) (Ok (after, given)) → after ≡ x
first_same x after g given e = ap (λ (p : Scope × Option Packet). p.0) (same_value (x, g) (after, given) e)

silent_after : (r : Result Scope CaptureFault) (after : Scope) (given : Option Packet) → (r >>= silent) ≡ Ok (after, given) → r ≡ Ok after
silent_after r after given e =
    let found = bind_ok r silent (after, given) e in
    found.1 ∙ ap (λ (s : Scope). Ok s) (sym (first_same found.0 after None given found.2))

content_order : (kind : BlockKind) (scope after : Scope) (order : ByteOrder) (body : List ℕ) (given : Option Packet) → content kind scope order body ≡ Ok (after, given) → after.order ≡ order_after kind scope order
unfolding content
content_order kinds.Section scope after order body given e = section_order scope after order body (silent_after (section scope order body) after given e)
content_order kinds.Interface scope after order body given e = description_order scope after order body (silent_after (description scope order body) after given e)
content_order kinds.Statistics scope after order body given e = ap (λ (s : Scope). s.order) (statistics_scope scope after order body (silent_after (statistics scope order body) after given e))
content_order kinds.Packet scope after order body given e =
    let found = bind_ok (packet scope order body) (λ p. Ok (scope, Some p)) (after, given) e in
    ap (λ (s : Scope). s.order) (first_same scope after (Some found.0) given found.2)
content_order kinds.NoStamp scope after order body given e = absurd cc
content_order kinds.Other scope after order body given e = ap (λ (s : Scope). s.order) (first_same scope after None given e)

block_order : (scope after : Scope) (head : Heading) (bytes : List ℕ) (given : Option Packet) → block scope head bytes ≡ Ok (after, given) → after.order ≡ order_after head.kind scope head.order
unfolding block
block_order scope after head bytes given e =
    content_order head.kind scope after head.order (take (length bytes - 4) bytes) given
    (guarded (eqb (number_at head.order w32 (length bytes - 4) bytes) (length bytes)) (content head.kind scope head.order (take (length bytes - 4) bytes)) faults.Length (after, given) e)

-- before the first section only a section's heading is read
headed : (kind : BlockKind) (order : ByteOrder) (bytes : List ℕ) (head : Heading) → heading_of kind order bytes ≡ Ok head → head.kind ≡ kind
unfolding heading_of
headed kind order bytes head e =
    let total = number_at order w32 4 bytes in
    let made : Heading = record { length = total; kind = kind; order = order } in
    let inner = guarded_not (not (eqb (total % 4) 0) || ltb total (least_length kind)) (cond (ltb 16777216 total) (Err faults.Limit) (Ok made)) faults.Length head e in
    ap (λ (h : Heading). h.kind) (same_value made head (guarded_not (ltb 16777216 total) (Ok made) faults.Limit head inner))

some_headed : (r : Result Heading CaptureFault) (head : Heading) → some_heading r ≡ Ok (Some head) → r ≡ Ok head
some_headed (Ok h) head e = cc
some_headed (Err fault) head e = absurd cc

section_headed : (bytes : List ℕ) (head : Heading) → section_heading bytes ≡ Ok (Some head) → head.kind ≡ kinds.Section
unfolding section_heading
section_headed bytes head e =
    by_tests (ltb (length bytes) 12) (eqb (number_at Little w32 8 bytes) 0x1A2B3C4D) (eqb (number_at Big w32 8 bytes) 0x1A2B3C4D) e where
      by_tests : (a b c : Bool) → cond a (Ok None) (cond b (some_heading (heading_of kinds.Section Little bytes)) (cond c (some_heading (heading_of kinds.Section Big bytes)) (Err faults.Magic))) ≡ Ok (Some head) → head.kind ≡ kinds.Section
      by_tests true b c e = absurd cc
      by_tests false true c e = headed kinds.Section Little bytes head (some_headed (heading_of kinds.Section Little bytes) head e)
      by_tests false false true e = headed kinds.Section Big bytes head (some_headed (heading_of kinds.Section Big bytes) head e)
      by_tests false false false e = absurd cc

block_headed : (bytes : List ℕ) (head : Heading) → block_heading None bytes ≡ Ok (Some head) → head.kind ≡ kinds.Section
unfolding block_heading
block_headed bytes head e = absurd cc

first_headed : (bytes : List ℕ) (head : Heading) → heading None bytes ≡ Ok (Some head) → head.kind ≡ kinds.Section
first_headed bytes head e =
    elim (cases_lt (length bytes) 4) [
      | inl few ↦ let none = heading_short None bytes few in absurd cc
      | inr many ↦ by_test (eqb (number_at Big w32 0 bytes) 0x0A0D0D0A) (sym (heading_long None bytes many) ∙ e)
    ] where
      by_test : (test : Bool) → cond test (section_heading bytes) (block_heading None bytes) ≡ Ok (Some head) → head.kind ≡ kinds.Section
      by_test true e = section_headed bytes head e
      by_test false e = block_headed bytes head e

kept_some : (kind : BlockKind) (section : Option ByteOrder) (scope : Scope) (order : ByteOrder) → scope.order ≡ section → (section ≡ None → kind ≡ kinds.Section) → is_some (order_after kind scope order) ≡ true
kept_some kinds.Section section scope order e only = refl
kept_some kinds.Interface None scope order e only = absurd (let h = only refl in cc)
kept_some kinds.Statistics None scope order e only = absurd (let h = only refl in cc)
kept_some kinds.Packet None scope order e only = absurd (let h = only refl in cc)
kept_some kinds.NoStamp None scope order e only = absurd (let h = only refl in cc)
kept_some kinds.Other None scope order e only = absurd (let h = only refl in cc)
kept_some kinds.Interface (Some o) scope order e only = ap is_some e
kept_some kinds.Statistics (Some o) scope order e only = ap is_some e
kept_some kinds.Packet (Some o) scope order e only = ap is_some e
kept_some kinds.NoStamp (Some o) scope order e only = ap is_some e
kept_some kinds.Other (Some o) scope order e only = ap is_some e

-- after any block a section has begun
begun : (scope after : Scope) (bytes : List ℕ) (given : Option Packet) → IsBlock scope bytes given after → is_some after.order ≡ true
begun scope after bytes given is =
    ap is_some (block_order scope after is.head bytes given is.taken)
    ∙ kept_some is.head.kind scope.order scope is.head.order refl (λ none. first_headed bytes is.head (ap (λ (o : Option ByteOrder). heading o bytes) (sym none) ∙ is.shown))

all_begun : (scope after : Scope) (blocks : List (List ℕ)) (packets : List Packet) → is_some scope.order ≡ true → Blocks scope blocks packets after → is_some after.order ≡ true
all_begun scope after [] packets some run = ap (λ (s : Scope). is_some s.order) run.1 ∙ some
all_begun scope after (bytes ∷ others) packets some run = all_begun run.1 after others run.2 (begun scope run.1 bytes run.0 run.3) run.4

-- no section has begun where no byte came
pub no_byte : (blocks : List (List ℕ)) (text : List ℕ) (packets : List Packet) (scope : Scope) → is_some scope.order ≡ false → Blocks no_blocks blocks packets scope → text ≡ concat blocks ++ [] → text ≡ []
no_byte [] text packets scope none run spelled = spelled
no_byte (bytes ∷ others) text packets scope none run spelled =
    let some = all_begun run.1 scope others run.2 (begun no_blocks run.1 bytes run.0 run.3) run.4 in absurd cc

pub some_byte : (blocks : List (List ℕ)) (text : List ℕ) (packets : List Packet) (scope : Scope) → is_some scope.order ≡ true → Blocks no_blocks blocks packets scope → text ≡ concat blocks ++ [] → text ≢ []
some_byte [] text packets scope some run spelled empty =
    let none : is_some scope.order ≡ false = ap (λ (s : Scope). is_some s.order) run.1 in absurd cc
some_byte (bytes ∷ others) text packets scope some run spelled empty =
    let none : length (concat (bytes ∷ others) ++ []) ≡ 0 = ap length (sym spelled ∙ empty) in
    let short : length bytes < 4 = omega (arith, none, length-append (bytes ++ concat others) [], length-append bytes (concat others)) in
    let unseen = heading_short no_blocks.order bytes short in
    let seen = run.3.shown in
    cc
