-- What the first bytes of a block say, they say however the text goes on.
use Rattle.std.proofs.Common.{◌≡◌, ◌≢◌, ℕ, ◌+◌, ◌≤◌, ◌<◌, Bool, true, false, cond, eqb, ltb, List, [], ◌++◌, length, take, drop, Option, Some, None, Result, Ok, Err, refl, sym, ap, ◌∙◌, inl, inr, lit<, arith}
use Rattle.std.specs.Int.{Width, w32, byte_len}
use Rattle.std.proofs.lemmas.Bool.{le-ltb, lt-ltb, cases_lt}
use Rattle.std.proofs.lemmas.List.{take-append-le, drop-append-le, length-append, length-drop}
use Rattle.audit_pcapng.specs.declared.byte_order.ByteOrder.{ByteOrder}
use Rattle.audit_pcapng.specs.declared.byte_order.ByteOrder.TheVariants.{Little, Big}
use Rattle.audit_pcapng.specs.declared.block_kind.BlockKind.{BlockKind}
use Rattle.audit_pcapng.specs.declared.block_kind.BlockKind.TheVariants as kinds
use Rattle.audit_pcapng.specs.declared.heading.Heading.{Heading}
use Rattle.audit_pcapng.specs.declared.fault.CaptureFault.{CaptureFault}
use Rattle.audit_pcapng.specs.declared.fault.CaptureFault.TheVariants.{Magic}
use Rattle.audit_pcapng.specs.Numbers.{number, number_at}
use Rattle.audit_pcapng.specs.Headings.{kind_of, heading_of, some_heading, section_heading, block_heading, heading}

pub number_at-append : (order : ByteOrder) (w : Width) (offset : ℕ) (a b : List ℕ) → offset + byte_len w ≤ length a → number_at order w offset (a ++ b) ≡ number_at order w offset a
unfolding number_at
number_at-append order w offset a b within =
    let from : drop offset (a ++ b) ≡ drop offset a ++ b = drop-append-le offset a b (omega arith) in
    let field : take (byte_len w) (drop offset a ++ b) ≡ take (byte_len w) (drop offset a) = take-append-le (byte_len w) (drop offset a) b (omega (arith, length-drop offset a)) in
    ap (λ (bytes : List ℕ). number order w bytes) (ap (λ (bytes : List ℕ). take (byte_len w) bytes) from ∙ field)

heading_of-append : (kind : BlockKind) (order : ByteOrder) (a b : List ℕ) → 8 ≤ length a → heading_of kind order (a ++ b) ≡ heading_of kind order a
unfolding heading_of
heading_of-append kind order a b many = rw (number_at-append order w32 4 a b many) refl

section_heading-append : (a b : List ℕ) → 12 ≤ length a → section_heading (a ++ b) ≡ section_heading a
unfolding section_heading
section_heading-append a b many =
    let longer : ltb (length (a ++ b)) 12 ≡ false = le-ltb _ _ (omega (arith, length-append a b)) in
    let long : ltb (length a) 12 ≡ false = le-ltb _ _ many in
    rw (longer, long, number_at-append Little w32 8 a b many, number_at-append Big w32 8 a b many, heading_of-append kinds.Section Little a b (omega arith), heading_of-append kinds.Section Big a b (omega arith)) refl

block_heading-append : (section : Option ByteOrder) (a b : List ℕ) → 8 ≤ length a → block_heading section (a ++ b) ≡ block_heading section a
unfolding block_heading
block_heading-append None a b many = refl
block_heading-append (Some order) a b many =
    let longer : ltb (length (a ++ b)) 8 ≡ false = le-ltb _ _ (omega (arith, length-append a b)) in
    let long : ltb (length a) 8 ≡ false = le-ltb _ _ many in
    rw (longer, long, number_at-append order w32 0 a b (omega arith), heading_of-append (kind_of (number_at order w32 0 a)) order a b many) refl

section_heading_short : (a : List ℕ) → length a < 12 → section_heading a ≡ Ok None
unfolding section_heading
section_heading_short a few = rw (lt-ltb _ _ few) refl

block_heading_short : (order : ByteOrder) (a : List ℕ) → length a < 8 → block_heading (Some order) a ≡ Ok None
unfolding block_heading
block_heading_short order a few = rw (lt-ltb _ _ few) refl

section_heading_kept : (a b : List ℕ) → section_heading a ≢ Ok None → section_heading (a ++ b) ≡ section_heading a
section_heading_kept a b shown =
    elim (cases_lt (length a) 12) [
      | inl few ↦ absurd (shown (section_heading_short a few))
      | inr many ↦ section_heading-append a b many
    ]

block_heading_kept : (section : Option ByteOrder) (a b : List ℕ) → block_heading section a ≢ Ok None → block_heading section (a ++ b) ≡ block_heading section a
unfolding block_heading
block_heading_kept None a b shown = refl
block_heading_kept (Some order) a b shown =
    elim (cases_lt (length a) 8) [
      | inl few ↦ absurd (shown (block_heading_short order a few))
      | inr many ↦ block_heading-append (Some order) a b many
    ]

pub heading_short : (section : Option ByteOrder) (a : List ℕ) → length a < 4 → heading section a ≡ Ok None
unfolding heading
heading_short section a few = rw (lt-ltb _ _ few) refl

kept_by : (test : Bool) (s s' t t' : Result (Option Heading) CaptureFault) → (s ≢ Ok None → s' ≡ s) → (t ≢ Ok None → t' ≡ t) → cond test s t ≢ Ok None → cond test s' t' ≡ cond test s t
kept_by true s s' t t' f g shown = f shown
kept_by false s s' t t' f g shown = g shown

pub heading_long : (section : Option ByteOrder) (a : List ℕ) → 4 ≤ length a → heading section a ≡ cond (eqb (number_at Big w32 0 a) 0x0A0D0D0A) (section_heading a) (block_heading section a)
unfolding heading
heading_long section a many = rw (le-ltb _ _ many) refl

heading_kept_long : (section : Option ByteOrder) (a b : List ℕ) → 4 ≤ length a → heading section a ≢ Ok None → heading section (a ++ b) ≡ heading section a
heading_kept_long section a b many shown =
    let long = heading_long section a many in
    let longer = heading_long section (a ++ b) (omega (arith, length-append a b)) in
    let same = number_at-append Big w32 0 a b many in
    let kept = kept_by (eqb (number_at Big w32 0 a) 0x0A0D0D0A) (section_heading a) (section_heading (a ++ b)) (block_heading section a) (block_heading section (a ++ b))
    (section_heading_kept a b) (block_heading_kept section a b) (λ e. shown (long ∙ e)) in
    longer ∙ ap (λ (n : ℕ). cond (eqb n 0x0A0D0D0A) (section_heading (a ++ b)) (block_heading section (a ++ b))) same ∙ kept ∙ sym long

-- a heading or a fault stays, however the text goes on
pub heading_kept : (section : Option ByteOrder) (a b : List ℕ) → heading section a ≢ Ok None → heading section (a ++ b) ≡ heading section a
heading_kept section a b shown =
    elim (cases_lt (length a) 4) [
      | inl few ↦ absurd (shown (heading_short section a few))
      | inr many ↦ heading_kept_long section a b many shown
    ]

pub heading_stays : (section : Option ByteOrder) (a b : List ℕ) (head : Heading) → heading section a ≡ Ok (Some head) → heading section (a ++ b) ≡ Ok (Some head)
heading_stays section a b head e =
    let shown : heading section a ≢ Ok None = λ none. absurd cc in
    heading_kept section a b shown ∙ e

pub fault_stays : (section : Option ByteOrder) (a b : List ℕ) (fault : CaptureFault) → heading section a ≡ Err fault → heading section (a ++ b) ≡ Err fault
fault_stays section a b fault e =
    let shown : heading section a ≢ Ok None = λ none. absurd cc in
    heading_kept section a b shown ∙ e

pub nothing_shown : (section : Option ByteOrder) → heading section [] ≡ Ok None
nothing_shown section = heading_short section [] (lit< tt)

-- twelve bytes show all that a heading has
pub heading-append : (section : Option ByteOrder) (a b : List ℕ) → 12 ≤ length a → heading section (a ++ b) ≡ heading section a
heading-append section a b many =
    let long = heading_long section a (omega arith) in
    let longer = heading_long section (a ++ b) (omega (arith, length-append a b)) in
    let inner : cond (eqb (number_at Big w32 0 (a ++ b)) 0x0A0D0D0A) (section_heading (a ++ b)) (block_heading section (a ++ b)) ≡ cond (eqb (number_at Big w32 0 a) 0x0A0D0D0A) (section_heading a) (block_heading section a) =
    rw (number_at-append Big w32 0 a b (omega arith), section_heading-append a b many, block_heading-append section a b (omega arith)) refl in
    longer ∙ inner ∙ sym long

never_none : (read : Result Heading CaptureFault) → some_heading read ≢ Ok None
never_none (Ok head) e = absurd cc
never_none (Err fault) e = absurd cc

section_full : (a : List ℕ) → 12 ≤ length a → section_heading a ≢ Ok None
unfolding section_heading
section_full a many e =
    either_test (eqb (number_at Little w32 8 a) 0x1A2B3C4D) (eqb (number_at Big w32 8 a) 0x1A2B3C4D) (heading_of kinds.Section Little a) (heading_of kinds.Section Big a) (rw (le-ltb _ _ many) at e) where
      either_test : (t u : Bool) (r s : Result Heading CaptureFault) → cond t (some_heading r) (cond u (some_heading s) (Err Magic)) ≡ Ok None → ⊥
      either_test true u r s e = never_none r e
      either_test false true r s e = never_none s e
      either_test false false r s e = absurd cc

block_full : (section : Option ByteOrder) (a : List ℕ) → 12 ≤ length a → block_heading section a ≢ Ok None
unfolding block_heading
block_full None a many e = absurd cc
block_full (Some order) a many e = never_none (heading_of (kind_of (number_at order w32 0 a)) order a) (rw (le-ltb (length a) 8 (omega arith)) at e)

neither : (test : Bool) (s t : Result (Option Heading) CaptureFault) → s ≢ Ok None → t ≢ Ok None → cond test s t ≢ Ok None
neither true s t f g = f
neither false s t f g = g

pub few : (section : Option ByteOrder) (a : List ℕ) → heading section a ≡ Ok None → length a < 12
few section a e =
    elim (cases_lt (length a) 12) [
      | inl lt ↦ lt
      | inr many ↦ absurd (neither (eqb (number_at Big w32 0 a) 0x0A0D0D0A) (section_heading a) (block_heading section a) (section_full a many) (block_full section a many) (sym (heading_long section a (omega arith)) ∙ e))
    ]

-- what a call of the reader's says, as the definition says it
pub shown_as : (section asked : Option ByteOrder) (bytes : List ℕ) (found : Option Heading) (head : Heading) → asked ≡ section → Ok found ≡ heading asked bytes → found ≡ Some head → heading section bytes ≡ Ok (Some head)
shown_as section asked bytes found head e exact is = ap (λ (o : Option ByteOrder). heading o bytes) (sym e) ∙ sym exact ∙ ap (λ (f : Option Heading). Ok f) is

pub none_as : (section asked : Option ByteOrder) (bytes : List ℕ) (found : Option Heading) → asked ≡ section → Ok found ≡ heading asked bytes → found ≡ None → heading section bytes ≡ Ok None
none_as section asked bytes found e exact is = ap (λ (o : Option ByteOrder). heading o bytes) (sym e) ∙ sym exact ∙ ap (λ (f : Option Heading). Ok f) is

pub fault_as : (section asked : Option ByteOrder) (bytes : List ℕ) (fault : CaptureFault) → asked ≡ section → Err fault ≡ heading asked bytes → heading section bytes ≡ Err fault
fault_as section asked bytes fault e exact = ap (λ (o : Option ByteOrder). heading o bytes) (sym e) ∙ sym exact
