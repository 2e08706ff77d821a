-- A block that is held until it is whole.
use Rattle.std.proofs.Common.{◌≡◌, ℕ, ◌≤◌, ◌<◌, max, List, [], ◌++◌, length, take, Option, Some, None, Result, Ok, Err, refl, sym, ap, subst, ◌∙◌, arith}
use Rattle.std.specs.Option.{option_to_list}
use Rattle.std.proofs.lemmas.List.{append-nil, take_at, length-append}
use Rattle.audit_pcapng.specs.declared.heading.Heading.{Heading}
use Rattle.audit_pcapng.specs.declared.packet.Packet.{Packet}
use Rattle.audit_pcapng.specs.declared.scope.Scope.{Scope}
use Rattle.audit_pcapng.specs.declared.fault.CaptureFault.{CaptureFault}
use Rattle.audit_pcapng.specs.declared.fault.CaptureFault.TheVariants.{Memory}
use Rattle.audit_pcapng.specs.Headings.{heading}
use Rattle.audit_pcapng.specs.Blocks.{block}
use Rattle.audit_pcapng.specs.Captures.{IsBlock, Front, IsCut, Lacks}
use Rattle.audit_pcapng.specs.Stretches.{Adds, Declines, Consumes, Stops}
use Rattle.audit_pcapng.proofs.Prefixes.{heading_stays, fault_stays, few}
use Rattle.audit_pcapng.proofs.Texts.{Front-one, Consumes-none, stops_by_heading, stops_by_block, stops_by_memory, cut_by_length}

pub no_memory : (scope : Scope) (text : List ℕ) (packets : List Packet) (fault : CaptureFault) → fault ≡ Memory → Stops scope text packets packets fault
no_memory scope text packets fault is = stops_by_memory scope scope text text packets packets fault (Consumes-none scope text packets) is

pub bad_heading : (scope : Scope) (text held rest : List ℕ) (packets : List Packet) (fault : CaptureFault) → held ++ rest ≡ text → heading scope.order held ≡ Err fault → Stops scope text packets packets fault
bad_heading scope text held rest packets fault e shown =
    stops_by_heading scope scope text text packets packets fault (Consumes-none scope text packets) (ap (λ (t : List ℕ). heading scope.order t) (sym e) ∙ fault_stays scope.order held rest fault shown)

pub all_held : (scope : Scope) (text held rest : List ℕ) (size : ℕ) (packets : List Packet) → held ++ rest ≡ text → (length held < size → rest ≡ []) → length held < size → Consumes scope text packets scope packets held
all_held scope text held rest size packets e used short =
    let same : text ≡ held = sym e ∙ ap (λ (r : List ℕ). held ++ r) (used short) ∙ append-nil held in
    subst (λ (t : List ℕ). Consumes scope text packets scope packets t) same (Consumes-none scope text packets)

-- still less than the block's length
pub still_cut : (scope : Scope) (held seen : List ℕ) (head : Heading) → ((kept : List ℕ) × (held ≡ seen ++ kept)) → heading scope.order seen ≡ Ok (Some head) → length held < head.length → IsCut scope held
still_cut scope held seen head grown shown short =
    cut_by_length scope held head (ap (λ (t : List ℕ). heading scope.order t) grown.1 ∙ heading_stays scope.order seen grown.0 head shown) short

lacks_within : (read : Result (Option Heading) CaptureFault) (a : List ℕ) (head : Heading) → ((h : Heading) → read ≡ Ok (Some h) → h ≡ head) → (read ≡ Ok None → length a < 12) → 12 ≤ head.length → Lacks read a → length a ≤ head.length
lacks_within (Ok None) a head same fewer long lacks = let lt = fewer refl in omega (arith, lt)
lacks_within (Ok (Some h)) a head same fewer long lacks = let e = ap (λ (x : Heading). x.length) (same h refl) in omega (arith, e)
lacks_within (Err fault) a head same fewer long lacks = absurd lacks

-- what was held was not longer than the block
within : (scope : Scope) (old held : List ℕ) (head : Heading) → IsCut scope old → ((kept : List ℕ) × (held ≡ old ++ kept)) → heading scope.order held ≡ Ok (Some head) → 12 ≤ head.length → length old ≤ head.length
within scope old held head cut grown shown long =
    lacks_within (heading scope.order old) old head (λ h e. let longer = heading_stays scope.order old grown.0 h e in
    let both : heading scope.order held ≡ Ok (Some h) = ap (λ (t : List ℕ). heading scope.order t) grown.1 ∙ longer in cc) (few scope.order old) long cut

pub fits_exactly : (scope : Scope) (old held seen : List ℕ) (head : Heading) → IsCut scope old → ((kept : List ℕ) × (seen ≡ old ++ kept)) → heading scope.order seen ≡ Ok (Some head) → 12 ≤ head.length
    → length seen ≤ max (length old) 12 → length held ≤ max (length seen) head.length → head.length ≤ length held → head.length ≡ length held
fits_exactly scope old held seen head cut grown shown long first second enough =
    let small = within scope old seen head cut grown shown long in omega (arith, small)

-- the heading that the first bytes showed is that of what is held
pub shown_still : (scope : Scope) (held seen : List ℕ) (head : Heading) → ((kept : List ℕ) × (held ≡ seen ++ kept)) → heading scope.order seen ≡ Ok (Some head) → heading scope.order held ≡ Ok (Some head)
shown_still scope held seen head grown shown = ap (λ (t : List ℕ). heading scope.order t) grown.1 ∙ heading_stays scope.order seen grown.0 head shown

pub bad_block : (scope : Scope) (text held rest read : List ℕ) (head : Heading) (before after : List Packet) (fault : CaptureFault)
    → held ++ rest ≡ text → heading scope.order held ≡ Ok (Some head) → head.length ≡ length held → read ≡ held → Declines scope head read fault → after ≡ before → Stops scope text before after fault
bad_block scope text held rest read head before after fault e shown whole is declines same =
    let all : heading scope.order text ≡ Ok (Some head) = ap (λ (t : List ℕ). heading scope.order t) (sym e) ∙ heading_stays scope.order held rest head shown in
    let front : read ≡ take head.length text = is ∙ sym (rw (← e) (take_at held rest head.length (sym whole))) in
    stops_by_block scope scope text text read head before before after fault (Consumes-none scope text before) all (omega (arith, whole, ap length e, length-append held rest)) front declines same

pub whole_block : (scope after : Scope) (text held rest read : List ℕ) (head : Heading) (before packets : List Packet)
    → held ++ rest ≡ text → heading scope.order held ≡ Ok (Some head) → head.length ≡ length held → read ≡ held → Adds scope head read before after packets → Consumes scope text before after packets rest
whole_block scope after text held rest read head before packets e shown whole is adds =
    let is_block : IsBlock scope held adds.given after = record { head = head; shown = shown; whole = whole; taken = ap (λ (t : List ℕ). block scope head t) (sym is) ∙ adds.taken } in
    record {
      more = option_to_list adds.given;
      front = subst (λ (t : List ℕ). Front scope t (option_to_list adds.given) after rest) e (Front-one scope after held rest adds.given is_block);
      added = adds.added;
    }
