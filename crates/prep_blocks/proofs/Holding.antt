-- Bytes that move from a piece to what is held, and the block that they make whole.
use Rattle.std.proofs.Common.{◌≡◌, ℕ, ◌≤◌, List, [], ◌++◌, length, take, Option, Some, Ok, Err, refl, sym, ap, ◌∙◌, append_assoc, arith}
use Rattle.std.specs.Option.{option_map}
use Rattle.std.proofs.lemmas.List.{append-nil, take_at, length-append}
use Rattle.audit_pcapng.specs.declared.heading.Heading.{Heading}
use Rattle.audit_pcapng.specs.declared.packet.Packet.{Packet}
use Rattle.audit_pcapng.specs.declared.scope.Scope.{Scope}
use Rattle.audit_pcapng.specs.declared.fault.CaptureFault.{CaptureFault}
use Rattle.audit_pcapng.specs.Headings.{heading}
use Rattle.audit_pcapng.specs.Blocks.{block}
use Rattle.audit_pcapng.specs.Captures.{IsFaulty}
use Rattle.audit_pcapng.proofs.Prefixes.{heading_stays, fault_stays}
use Rattle.prep_blocks.specs.declared.block.Block.{Block}
use Rattle.prep_blocks.specs.Read.{Moves, Splits, head_of}

pub moves_all : (held after piece rest : List ℕ) → Moves held after piece rest → after ++ rest ≡ held ++ piece
moves_all held after piece rest m = ap (λ (t : List ℕ). t ++ rest) m.grown ∙ append_assoc held m.taken rest ∙ ap (λ (t : List ℕ). held ++ t) (sym m.cut)

pub moves_then : (a b c piece rest rest' : List ℕ) → Moves a b piece rest → Moves b c rest rest' → Moves a c piece rest'
moves_then a b c piece rest rest' m n = record {
  taken = m.taken ++ n.taken;
  cut = m.cut ∙ ap (λ (t : List ℕ). m.taken ++ t) n.cut ∙ sym (append_assoc m.taken n.taken rest');
  grown = n.grown ∙ ap (λ (t : List ℕ). t ++ n.taken) m.grown ∙ append_assoc a m.taken n.taken;
}

-- all of the piece is held
pub all_moved : (held after piece rest : List ℕ) → Moves held after piece rest → rest ≡ [] → after ≡ held ++ piece
all_moved held after piece rest m none = sym (append-nil after) ∙ ap (λ (t : List ℕ). after ++ t) (sym none) ∙ moves_all held after piece rest m

-- a heading's fault is the text's
pub bad_heading : (scope : Scope) (held after piece rest : List ℕ) (fault : CaptureFault) → Moves held after piece rest → heading scope.order after ≡ Err fault → IsFaulty scope (held ++ piece) fault
bad_heading scope held after piece rest fault m shown =
    let all : heading scope.order (held ++ piece) ≡ Err fault = ap (λ (t : List ℕ). heading scope.order t) (sym (moves_all held after piece rest m)) ∙ fault_stays scope.order after rest fault shown in
    rw all refl

-- and so is the fault of a whole block
pub bad_block : (scope : Scope) (held after piece rest : List ℕ) (head : Heading) (fault : CaptureFault)
    → Moves held after piece rest → heading scope.order after ≡ Ok (Some head) → head.length ≡ length after → block scope head after ≡ Err fault → IsFaulty scope (held ++ piece) fault
bad_block scope held after piece rest head fault m shown whole e =
    let text : after ++ rest ≡ held ++ piece = moves_all held after piece rest m in
    let all : heading scope.order (held ++ piece) ≡ Ok (Some head) = ap (λ (t : List ℕ). heading scope.order t) (sym text) ∙ heading_stays scope.order after rest head shown in
    let front : take head.length (held ++ piece) ≡ after = rw (← text) (take_at after rest head.length (sym whole)) in
    let enough : head.length ≤ length (held ++ piece) = omega (arith, whole, ap length text, length-append after rest) in
    rw all (enough, ap (λ (t : List ℕ). block scope head t) front ∙ e)

pub whole_block : (scope next : Scope) (held after piece rest : List ℕ) (head : Heading) (given : Option Packet) (made : Block)
    → Moves held after piece rest → heading scope.order after ≡ Ok (Some head) → head.length ≡ length after → block scope head after ≡ Ok (next, given)
    → made.bytes ≡ after → made.kind ≡ head.kind → made.order ≡ head.order → made.packet ≡ option_map head_of given → Splits scope held piece made rest next
whole_block scope next held after piece rest head given made m shown whole e bytes kind order packet = record {
  given = given;
  read = record {
    head = head;
    shown = ap (λ (t : List ℕ). heading scope.order t) bytes ∙ shown;
    size = whole ∙ ap length (sym bytes);
    taken = ap (λ (t : List ℕ). block scope head t) bytes ∙ e;
    kind = kind;
    order = order;
    packet = packet;
  };
  moved = record { taken = m.taken; cut = m.cut; grown = bytes ∙ m.grown };
}
