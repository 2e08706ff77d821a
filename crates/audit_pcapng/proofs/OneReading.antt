-- A text has one list of packets and one first fault, and a longer text keeps them.
use Rattle.std.proofs.Common.{◌≡◌, ℕ, ◌≤◌, ◌<◌, List, [], ◌∷◌, ◌++◌, length, take, Option, Some, None, Result, Ok, Err, refl, sym, ap, subst, ◌∙◌, append_assoc, arith}
use Rattle.std.specs.Option.{option_to_list}
use Rattle.std.specs.List.{concat}
use Rattle.std.proofs.lemmas.List.{append_cancel_left, take_at, take-append-le, length-append}
use Rattle.audit_pcapng.specs.declared.heading.Heading.{Heading}
use Rattle.audit_pcapng.specs.declared.packet.Packet.{Packet}
use Rattle.audit_pcapng.specs.declared.scope.Scope.{Scope}
use Rattle.audit_pcapng.specs.declared.fault.CaptureFault.{CaptureFault}
use Rattle.audit_pcapng.specs.Headings.{heading}
use Rattle.audit_pcapng.specs.Sections.{no_blocks}
use Rattle.audit_pcapng.specs.Blocks.{block}
use Rattle.audit_pcapng.specs.Captures.{IsBlock, Blocks, Reads, FirstFault, IsCut, IsFaulty, Lacks, Shows}
use Rattle.audit_pcapng.proofs.Prefixes.{heading_stays, fault_stays}
use Rattle.audit_pcapng.proofs.Texts.{Front-more}

-- no block begins these bytes
abbrev IsStuck : Scope → List ℕ → Type 0
IsStuck scope rest = (bytes : List ℕ) (more : List ℕ) (given : Option Packet) (after : Scope) → IsBlock scope bytes given after → rest ≡ bytes ++ more → ⊥

-- the heading that a block at the front shows
front_shown : (scope after : Scope) (text bytes more : List ℕ) (given : Option Packet) (is : IsBlock scope bytes given after) → text ≡ bytes ++ more → heading scope.order text ≡ Ok (Some is.head)
front_shown scope after text bytes more given is e = ap (λ (t : List ℕ). heading scope.order t) e ∙ heading_stays scope.order bytes more is.head is.shown

lacks_none : (read : Result (Option Heading) CaptureFault) (rest : List ℕ) (head : Heading) → read ≡ Ok (Some head) → head.length ≤ length rest → Lacks read rest → ⊥
lacks_none read rest head e within lacks = let short : length rest < head.length = subst (λ (r : Result (Option Heading) CaptureFault). Lacks r rest) e lacks in omega arith

cut_stuck : (scope : Scope) (rest : List ℕ) → IsCut scope rest → IsStuck scope rest
cut_stuck scope rest cut bytes more given after is e =
    lacks_none (heading scope.order rest) rest is.head (front_shown scope after rest bytes more given is e) (omega (arith, is.whole, ap length e, length-append bytes more)) cut

faulty_stuck : (scope : Scope) (rest : List ℕ) (fault : CaptureFault) → IsFaulty scope rest fault → IsStuck scope rest
faulty_stuck scope rest fault faulty bytes more given after is e =
    let shown = front_shown scope after rest bytes more given is e in
    let bad : (is.head.length ≤ length rest) × (block scope is.head (take is.head.length rest) ≡ Err fault) = subst (λ (r : Result (Option Heading) CaptureFault). Shows scope r rest fault) shown faulty in
    let same : take is.head.length rest ≡ bytes = rw e (take_at bytes more is.head.length (sym is.whole)) in
    let taken = is.taken in
    let err : block scope is.head bytes ≡ Err fault = ap (λ (t : List ℕ). block scope is.head t) (sym same) ∙ bad.1 in
    cc

-- two blocks at the front of one text are one
pub record SameBlock (x y : List ℕ) (next other : Scope) (given gave : Option Packet) : Type 0 where
  pub bytes : x ≡ y
  pub scope : next ≡ other
  pub packet : given ≡ gave

abbrev scope_of : Result (Scope × Option Packet) CaptureFault → Scope → Scope
scope_of (Ok p) d = p.0
scope_of (Err fault) d = d

abbrev packet_of : Result (Scope × Option Packet) CaptureFault → Option Packet → Option Packet
packet_of (Ok p) d = p.1
packet_of (Err fault) d = d

one_block : (scope next other : Scope) (text x y r u : List ℕ) (given gave : Option Packet) → IsBlock scope x given next → IsBlock scope y gave other → text ≡ x ++ r → text ≡ y ++ u → SameBlock x y next other given gave
one_block scope next other text x y r u given gave is it e f =
    let one = front_shown scope next text x r given is e in
    let two = front_shown scope other text y u gave it f in
    let head : is.head ≡ it.head = cc in
    let len : length x ≡ length y = sym is.whole ∙ ap (λ (h : Heading). h.length) head ∙ it.whole in
    let bytes : x ≡ y = sym (take_at x r (length x) refl) ∙ ap (take (length x)) (sym e ∙ f) ∙ take_at y u (length x) (sym len) in
    let taken : block scope it.head y ≡ Ok (next, given) = ap (λ (t : List ℕ). block scope it.head t) (sym bytes) ∙ ap (λ (h : Heading). block scope h x) (sym head) ∙ is.taken in
    let both : ◌≡◌ {A = Result (Scope × Option Packet) CaptureFault} (Ok (next, given)) (Ok (other, gave)) = sym taken ∙ it.taken in
    record { bytes = bytes; scope = ap (λ (r : Result (Scope × Option Packet) CaptureFault). scope_of r next) both; packet = ap (λ (r : Result (Scope × Option Packet) CaptureFault). packet_of r given) both }

rest_same : (x y r u t : List ℕ) → t ≡ x ++ r → t ≡ y ++ u → x ≡ y → r ≡ u
rest_same x y r u t e f same = append_cancel_left y r u (ap (λ (z : List ℕ). z ++ r) (sym same) ∙ sym e ∙ f)

-- two readings of one text, of which none goes further
record SameRun (p q : List Packet) (s t : Scope) (r u : List ℕ) : Type 0 where
  packets : p ≡ q
  scope : s ≡ t
  rest : r ≡ u

same_run : (start s t : Scope) (text r u : List ℕ) (xs ys : List (List ℕ)) (p q : List Packet)
    → text ≡ concat xs ++ r → Blocks start xs p s → IsStuck s r → text ≡ concat ys ++ u → Blocks start ys q t → IsStuck t u → SameRun p q s t r u
same_run start s t text r u [] [] p q e run stuck f ran halted =
    record { packets = run.0 ∙ sym ran.0; scope = run.1 ∙ sym ran.1; rest = sym e ∙ f }
same_run start s t text r u [] (y ∷ ys) p q e run stuck f ran halted =
    absurd (subst (λ (z : Scope). IsStuck z r) run.1 stuck y (concat ys ++ u) ran.0 ran.1 ran.3 (sym e ∙ f ∙ append_assoc y (concat ys) u))
same_run start s t text r u (x ∷ xs) [] p q e run stuck f ran halted =
    absurd (subst (λ (z : Scope). IsStuck z u) ran.1 halted x (concat xs ++ r) run.0 run.1 run.3 (sym f ∙ e ∙ append_assoc x (concat xs) r))
same_run start s t text r u (x ∷ xs) (y ∷ ys) p q e run stuck f ran halted =
    let first = e ∙ append_assoc x (concat xs) r in
    let second = f ∙ append_assoc y (concat ys) u in
    let same = one_block start run.1 ran.1 text x y (concat xs ++ r) (concat ys ++ u) run.0 ran.0 run.3 ran.3 first second in
    let behind : concat xs ++ r ≡ concat ys ++ u = rest_same x y (concat xs ++ r) (concat ys ++ u) text first second same.bytes in
    let others = same_run run.1 s t (concat xs ++ r) r u xs ys run.2 ran.2 refl run.4 stuck behind (subst (λ (z : Scope). Blocks z ys ran.2 t) (sym same.scope) ran.4) halted in
    record {
      packets = run.5 ∙ ap (λ (g : Option Packet). option_to_list g ++ run.2) same.packet ∙ ap (λ (l : List Packet). option_to_list ran.0 ++ l) others.packets ∙ sym ran.5;
      scope = others.scope;
      rest = others.rest;
    }

shows_one : (scope : Scope) (read : Result (Option Heading) CaptureFault) (rest : List ℕ) (f g : CaptureFault) → Shows scope read rest f → Shows scope read rest g → f ≡ g
shows_one scope (Ok None) rest f g one two = absurd one
shows_one scope (Ok (Some head)) rest f g one two = let a = one.1 in let b = two.1 in cc
shows_one scope (Err fault) rest f g one two = sym one ∙ two

lacks_or_shows : (scope : Scope) (read : Result (Option Heading) CaptureFault) (rest : List ℕ) (f : CaptureFault) → Lacks read rest → Shows scope read rest f → ⊥
lacks_or_shows scope (Ok None) rest f lacks shows = shows
lacks_or_shows scope (Ok (Some head)) rest f lacks shows = omega (arith, shows.0)
lacks_or_shows scope (Err fault) rest f lacks shows = lacks

pub one_list : (text : List ℕ) (p q : List Packet) (s t : Scope) (r u : List ℕ) → Reads text p s r → Reads text q t u → (p ≡ q) × (s ≡ t) × (r ≡ u)
one_list text p q s t r u one two =
    let same = same_run no_blocks s t text r u one.front.blocks two.front.blocks p q one.front.spelled one.front.run (cut_stuck s r one.cut) two.front.spelled two.front.run (cut_stuck t u two.cut) in
    (same.packets, same.scope, same.rest)

pub one_fault : (text : List ℕ) (p q : List Packet) (f g : CaptureFault) → FirstFault text p f → FirstFault text q g → (p ≡ q) × (f ≡ g)
one_fault text p q f g one two =
    let same = same_run no_blocks one.scope two.scope text one.rest two.rest one.front.blocks two.front.blocks p q one.front.spelled one.front.run (faulty_stuck one.scope one.rest f one.faulty)
    two.front.spelled two.front.run (faulty_stuck two.scope two.rest g two.faulty) in
    let moved : IsFaulty one.scope one.rest g = subst (λ (s : Scope). IsFaulty s one.rest g) (sym same.scope) (subst (λ (r : List ℕ). IsFaulty two.scope r g) (sym same.rest) two.faulty) in
    (same.packets, shows_one one.scope (heading one.scope.order one.rest) one.rest f g one.faulty moved)

pub not_both : (text : List ℕ) (p q : List Packet) (s : Scope) (r : List ℕ) (f : CaptureFault) → Reads text p s r → FirstFault text q f → ⊥
not_both text p q s r f one two =
    let same = same_run no_blocks s two.scope text r two.rest one.front.blocks two.front.blocks p q one.front.spelled one.front.run (cut_stuck s r one.cut)
    two.front.spelled two.front.run (faulty_stuck two.scope two.rest f two.faulty) in
    let moved : IsFaulty s r f = subst (λ (z : Scope). IsFaulty z r f) (sym same.scope) (subst (λ (z : List ℕ). IsFaulty two.scope z f) (sym same.rest) two.faulty) in
    lacks_or_shows s (heading s.order r) r f one.cut moved

shows_more : (scope : Scope) (read : Result (Option Heading) CaptureFault) (rest more : List ℕ) (f : CaptureFault) → heading scope.order rest ≡ read → Shows scope read rest f → IsFaulty scope (rest ++ more) f
shows_more scope (Ok None) rest more f e shows = absurd shows
shows_more scope (Ok (Some head)) rest more f e shows =
    rw (heading_stays scope.order rest more head e)
    (omega (arith, shows.0, length-append rest more), ap (λ (t : List ℕ). block scope head t) (take-append-le head.length rest more shows.0) ∙ shows.1)
shows_more scope (Err fault) rest more f e shows = rw (fault_stays scope.order rest more fault e) shows

pub fault_kept : (text more : List ℕ) (p : List Packet) (f : CaptureFault) → FirstFault text p f → FirstFault (text ++ more) p f
fault_kept text more p f first = record {
  scope = first.scope;
  rest = first.rest ++ more;
  front = Front-more no_blocks first.scope text first.rest more p first.front;
  faulty = shows_more first.scope (heading first.scope.order first.rest) first.rest more f refl first.faulty;
}

-- a reading that stops earlier has the first of the packets
prefix_run : (start s t : Scope) (text r u : List ℕ) (xs ys : List (List ℕ)) (p q : List Packet)
    → text ≡ concat xs ++ r → Blocks start xs p s → text ≡ concat ys ++ u → Blocks start ys q t → IsStuck t u → (later : List Packet) × (q ≡ p ++ later)
prefix_run start s t text r u [] ys p q e run f ran halted = (q, ap (λ (l : List Packet). l ++ q) (sym run.0))
prefix_run start s t text r u (x ∷ xs) [] p q e run f ran halted =
    absurd (subst (λ (z : Scope). IsStuck z u) ran.1 halted x (concat xs ++ r) run.0 run.1 run.3 (sym f ∙ e ∙ append_assoc x (concat xs) r))
prefix_run start s t text r u (x ∷ xs) (y ∷ ys) p q e run f ran halted =
    let first = e ∙ append_assoc x (concat xs) r in
    let second = f ∙ append_assoc y (concat ys) u in
    let same = one_block start run.1 ran.1 text x y (concat xs ++ r) (concat ys ++ u) run.0 ran.0 run.3 ran.3 first second in
    let behind : concat xs ++ r ≡ concat ys ++ u = rest_same x y (concat xs ++ r) (concat ys ++ u) text first second same.bytes in
    let others = prefix_run run.1 s t (concat xs ++ r) r u xs ys run.2 ran.2 refl run.4 behind (subst (λ (z : Scope). Blocks z ys ran.2 t) (sym same.scope) ran.4) halted in (
      others.0,
      ran.5 ∙ ap (λ (l : List Packet). option_to_list ran.0 ++ l) others.1 ∙ ap (λ (g : Option Packet). option_to_list g ++ (run.2 ++ others.0)) (sym same.packet)
          ∙ sym (append_assoc (option_to_list run.0) run.2 others.0) ∙ ap (λ (l : List Packet). l ++ others.0) (sym run.5),
    )

pub packets_kept : (text more : List ℕ) (p q : List Packet) (s t : Scope) (r u : List ℕ) → Reads text p s r → Reads (text ++ more) q t u → (later : List Packet) × (q ≡ p ++ later)
packets_kept text more p q s t r u one two =
    let front = Front-more no_blocks s text r more p one.front in
    prefix_run no_blocks s t (text ++ more) (r ++ more) u front.blocks two.front.blocks p q front.spelled front.run two.front.spelled two.front.run (cut_stuck t u two.cut)

pub packets_before : (text more : List ℕ) (p q : List Packet) (s : Scope) (r : List ℕ) (f : CaptureFault) → Reads text p s r → FirstFault (text ++ more) q f → (later : List Packet) × (q ≡ p ++ later)
packets_before text more p q s r f one two =
    let front = Front-more no_blocks s text r more p one.front in
    prefix_run no_blocks s two.scope (text ++ more) (r ++ more) two.rest front.blocks two.front.blocks p q front.spelled front.run two.front.spelled two.front.run (faulty_stuck two.scope two.rest f two.faulty)
