-- Blocks one after another: more of them, and more text behind them.
use Rattle.std.proofs.Common.{◌≡◌, ℕ, ◌≤◌, ◌<◌, List, [], ◌∷◌, ◌++◌, length, take, drop, Option, Some, None, Ok, Err, refl, sym, ap, subst, ◌∙◌, append_assoc, arith}
use Rattle.std.specs.Option.{option_to_list}
use Rattle.std.specs.List.{concat}
use Rattle.std.proofs.lemmas.List.{nil_from_length, append-nil, take-append-drop, length-take}
use Rattle.audit_pcapng.specs.declared.heading.Heading.{Heading}
use Rattle.audit_pcapng.specs.declared.packet.Packet.{Packet}
use Rattle.audit_pcapng.specs.declared.scope.Scope.{Scope}
use Rattle.audit_pcapng.specs.declared.fault.CaptureFault.{CaptureFault}
use Rattle.audit_pcapng.specs.declared.fault.CaptureFault.TheVariants.{Memory}
use Rattle.audit_pcapng.specs.Headings.{heading}
use Rattle.audit_pcapng.specs.Blocks.{block}
use Rattle.audit_pcapng.specs.Captures.{IsBlock, Blocks, Front, IsCut}
use Rattle.audit_pcapng.specs.Stretches.{Adds, Declines, Consumes, Stops}
use Rattle.audit_pcapng.proofs.Prefixes.{heading-append, nothing_shown}

concat-append : (xs ys : List (List ℕ)) → concat (xs ++ ys) ≡ concat xs ++ concat ys
concat-append [] ys = refl
concat-append (x ∷ xs) ys = ap (λ (r : List ℕ). x ++ r) (concat-append xs ys) ∙ sym (append_assoc x (concat xs) (concat ys))

Blocks-then : (start mid after : Scope) (xs ys : List (List ℕ)) (p q : List Packet) → Blocks start xs p mid → Blocks mid ys q after → Blocks start (xs ++ ys) (p ++ q) after
Blocks-then start mid after [] ys p q first second =
    subst (λ (s : Scope). Blocks s ys (p ++ q) after) first.1 (subst (λ (r : List Packet). Blocks mid ys (r ++ q) after) (sym first.0) second)
Blocks-then start mid after (x ∷ xs) ys p q first second = (
  first.0,
  first.1,
  first.2 ++ q,
  first.3,
  Blocks-then first.1 mid after xs ys first.2 q first.4 second,
  ap (λ (r : List Packet). r ++ q) first.5 ∙ append_assoc (option_to_list first.0) first.2 q,
)

pub Front-none : (scope : Scope) (text : List ℕ) → Front scope text [] scope text
Front-none scope text = record { blocks = []; spelled = refl; run = (refl, refl) }

pub Front-then : (start mid after : Scope) (text rest rest' : List ℕ) (p q : List Packet) → Front start text p mid rest → Front mid rest q after rest' → Front start text (p ++ q) after rest'
Front-then start mid after text rest rest' p q first second = record {
  blocks = first.blocks ++ second.blocks;
  spelled = first.spelled ∙ ap (λ (r : List ℕ). concat first.blocks ++ r) second.spelled
      ∙ sym (append_assoc (concat first.blocks) (concat second.blocks) rest')
      ∙ ap (λ (r : List ℕ). r ++ rest') (sym (concat-append first.blocks second.blocks));
  run = Blocks-then start mid after first.blocks second.blocks p q first.run second.run;
}

pub Front-more : (start after : Scope) (text rest more : List ℕ) (p : List Packet) → Front start text p after rest → Front start (text ++ more) p after (rest ++ more)
Front-more start after text rest more p front = record {
  blocks = front.blocks;
  spelled = ap (λ (r : List ℕ). r ++ more) front.spelled ∙ append_assoc (concat front.blocks) rest more;
  run = front.run;
}

-- one block at the front
pub Front-one : (scope after : Scope) (bytes rest : List ℕ) (given : Option Packet) → IsBlock scope bytes given after → Front scope (bytes ++ rest) (option_to_list given) after rest
Front-one scope after bytes rest given is = record {
  blocks = bytes ∷ [];
  spelled = ap (λ (r : List ℕ). r ++ rest) (sym (append-nil bytes));
  run = (given, after, [], is, (refl, refl), sym (append-nil (option_to_list given)));
}

-- a loop's step: what was read so far, and one block more
pub one_more : (start mid after : Scope) (text rest block behind : List ℕ) (head : Heading) (first before packets : List Packet)
    → Consumes start text first mid before rest → heading mid.order rest ≡ Ok (Some head) → head.length ≤ length rest
    → 12 ≤ head.length → block ≡ take head.length rest → behind ≡ drop head.length rest
    → Adds mid head block before after packets → Consumes start text first after packets behind
one_more start mid after text rest block behind head first before packets so_far shown within long e-block e-behind adds =
    let whole : head.length ≡ length block = rw e-block (omega (arith, length-take head.length rest)) in
    let parts : rest ≡ block ++ behind = rw (e-block, e-behind) (sym (take-append-drop head.length rest)) in
    let shown_so : heading mid.order block ≡ Ok (Some head) = sym (heading-append mid.order block behind (omega arith)) ∙ ap (λ (r : List ℕ). heading mid.order r) (sym parts) ∙ shown in
    let one : Front mid rest (option_to_list adds.given) after behind = rw parts (Front-one mid after block behind adds.given (record { head = head; shown = shown_so; whole = whole; taken = adds.taken })) in
    record {
      more = so_far.more ++ option_to_list adds.given;
      front = Front-then start mid after text rest behind so_far.more (option_to_list adds.given) so_far.front one;
      added = adds.added ∙ ap (λ (r : List Packet). r ++ option_to_list adds.given) so_far.added ∙ append_assoc first so_far.more (option_to_list adds.given);
    }

pub Consumes-none : (scope : Scope) (text : List ℕ) (packets : List Packet) → Consumes scope text packets scope packets text
Consumes-none scope text packets = record { more = []; front = Front-none scope text; added = sym (append-nil packets) }

-- the next block's heading has a fault
pub stops_by_heading : (start mid : Scope) (text rest : List ℕ) (first before : List Packet) (fault : CaptureFault)
    → Consumes start text first mid before rest → heading mid.order rest ≡ Err fault → Stops start text first before fault
stops_by_heading start mid text rest first before fault so_far shown = record {
  more = so_far.more;
  scope = mid;
  rest = rest;
  front = so_far.front;
  added = so_far.added;
  faulty = λ named. rw shown refl;
}

-- the next block has a fault, or there was no memory for its packet
pub stops_by_block : (start mid : Scope) (text rest block : List ℕ) (head : Heading) (first before after : List Packet) (fault : CaptureFault)
    → Consumes start text first mid before rest → heading mid.order rest ≡ Ok (Some head) → head.length ≤ length rest → block ≡ take head.length rest
    → Declines mid head block fault → after ≡ before → Stops start text first after fault
stops_by_block start mid text rest bytes head first before after fault so_far shown within e-block declines same = record {
  more = so_far.more;
  scope = mid;
  rest = rest;
  front = so_far.front;
  added = same ∙ so_far.added;
  faulty = λ named. rw shown (within, ap (λ (r : List ℕ). block mid head r) (sym e-block) ∙ declines named);
}

-- there was no memory for the rest
pub stops_by_memory : (start mid : Scope) (text rest : List ℕ) (first after : List Packet) (fault : CaptureFault)
    → Consumes start text first mid after rest → fault ≡ Memory → Stops start text first after fault
stops_by_memory start mid text rest first after fault so_far is = record {
  more = so_far.more;
  scope = mid;
  rest = rest;
  front = so_far.front;
  added = so_far.added;
  faulty = λ named. absurd (named is);
}

pub cut_by_none : (scope : Scope) (rest : List ℕ) → heading scope.order rest ≡ Ok None → IsCut scope rest
cut_by_none scope rest shown = rw shown tt

pub cut_by_length : (scope : Scope) (rest : List ℕ) (head : Heading) → heading scope.order rest ≡ Ok (Some head) → length rest < head.length → IsCut scope rest
cut_by_length scope rest head shown short = rw shown short

pub cut_by_end : (scope : Scope) (rest : List ℕ) → length rest ≡ 0 → IsCut scope rest
cut_by_end scope rest e = cut_by_none scope rest (ap (λ (r : List ℕ). heading scope.order r) (nil_from_length rest e) ∙ nothing_shown scope.order)

pub Consumes-then : (start mid after : Scope) (text rest rest' : List ℕ) (first before packets : List Packet)
    → Consumes start text first mid before rest → Consumes mid rest before after packets rest' → Consumes start text first after packets rest'
Consumes-then start mid after text rest rest' first before packets one two = record {
  more = one.more ++ two.more;
  front = Front-then start mid after text rest rest' one.more two.more one.front two.front;
  added = two.added ∙ ap (λ (r : List Packet). r ++ two.more) one.added ∙ append_assoc first one.more two.more;
}

pub Stops-then : (start mid : Scope) (text rest : List ℕ) (first before packets : List Packet) (fault : CaptureFault)
    → Consumes start text first mid before rest → Stops mid rest before packets fault → Stops start text first packets fault
Stops-then start mid text rest first before packets fault one two = record {
  more = one.more ++ two.more;
  scope = two.scope;
  rest = two.rest;
  front = Front-then start mid two.scope text rest two.rest one.more two.more one.front two.front;
  added = two.added ∙ ap (λ (r : List Packet). r ++ two.more) one.added ∙ append_assoc first one.more two.more;
  faulty = two.faulty;
}
