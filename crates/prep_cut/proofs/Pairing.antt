-- Departures and their arrivals, one block more, and counted.
use Rattle.std.proofs.Common.{◌≡◌, ◌≢◌, inl, inr, ◌+◌, ◌≤◌, ◌==◌, ℕ, suc, Bool, true, false, nat_lt, List, [], ◌∷◌, ◌++◌, length, get_or, Option, refl, sym, ap, subst, ◌∙◌, arith}
use Rattle.std.specs.List.{AllByRecursion}
use Rattle.std.proofs.lemmas.Bool.{ltb-false, ltb-true, eqb-false, eqb-true}
use Rattle.std.proofs.lemmas.List.Elements.{Contains-append_left, Contains-append_right}
use Rattle.std.specs.Prelude.{Contains}
use Rattle.prep_causes.specs.declared.causes.Causes.{Causes}
use Rattle.prep_causes.specs.declared.half.Half.{Half}
use Rattle.prep_causes.specs.declared.half.Reach.{Reach}
use Rattle.prep_causes.specs.declared.slot.Slot.{Slot}
use Rattle.prep_causes.specs.declared.slot.Slot.TheVariants.{Empty, One, Pair}
use Rattle.prep_causes.specs.Adding.{IsAdded}
use Rattle.prep_causes.specs.Causing.{IsCause}
use Rattle.prep_causes.specs.Slots.{Becomes, AreOfOne, pairs_in}
use Rattle.prep_blocks.specs.declared.block.Block.{Block}
use Rattle.prep_cut.specs.declared.plan.Plan.{Plan}
use Rattle.prep_cut.specs.declared.plan.Proposal.{Proposal}
use Rattle.prep_cut.specs.Marks.{Marked, marked_of, line_of, proposed_line, proposed_cause}
use Rattle.prep_cut.specs.Needing.{reach_of}
use Rattle.prep_cut.specs.declared.tallies.Tallies.{Tallies}
use Rattle.prep_causes.specs.Groups.{carried_with}
use Rattle.prep_cut.specs.Marking.{AreTallies, carried_of}
use Rattle.prep_cut.specs.Unread.{AreCarried}
use Rattle.prep_cut.specs.Pairs.{Ascend, AreCauses, ArePaired, Holds, IsNoted, IsNumbered, IsPaired, Notes}

numbered_more : (plan : Plan) (blocks more : List Marked) (number : ℕ) (half : Half) → IsNumbered plan blocks number half → IsNumbered plan (blocks ++ more) number half
numbered_more plan blocks more number half i = record { one = i.one; among = Contains-append_left blocks more i.one i.among; number_is = i.number_is; half_is = i.half_is }

holds_more : (plan : Plan) (blocks more : List Marked) (number : ℕ) (slot : Slot) → Holds plan blocks number slot → Holds plan (blocks ++ more) number slot
holds_more plan blocks more number Empty h = tt
holds_more plan blocks more number (One half) h = numbered_more plan blocks more number half h
holds_more plan blocks more number Pair h = record {
  arrival = h.arrival;
  departure = h.departure;
  arrived = numbered_more plan blocks more number h.arrival h.arrived;
  left = numbered_more plan blocks more number h.departure h.left;
  cause = h.cause;
}

of_one : (plan : Plan) (blocks : List Marked) (number : ℕ) (reach : Reach) (first half : Half) → AreOfOne reach first half → IsNumbered plan blocks number first → IsNumbered plan blocks number half
    → reach ≡ reach_of plan.policy → IsPaired plan blocks number
of_one plan blocks number reach first half (inl c) f h e = record { arrival = first; departure = half; arrived = f; left = h; cause = subst (λ (r : Reach). IsCause r first half) e c }
of_one plan blocks number reach first half (inr c) f h e = record { arrival = half; departure = first; arrived = h; left = f; cause = subst (λ (r : Reach). IsCause r half first) e c }

becomes : (plan : Plan) (blocks : List Marked) (number : ℕ) (reach : Reach) (old : Slot) (half : Half) (new : Slot) → Becomes reach old half new → Holds plan blocks number old
    → IsNumbered plan blocks number half → reach ≡ reach_of plan.policy → Holds plan blocks number new
becomes plan blocks number reach Empty half new b h i e = subst (λ (s : Slot). Holds plan blocks number s) (sym b) i
becomes plan blocks number reach Pair half new b h i e = subst (λ (s : Slot). Holds plan blocks number s) (sym b) h
becomes plan blocks number reach (One first) half Empty b h i e = absurd b
becomes plan blocks number reach (One first) half (One kept) b h i e = subst (λ (x : Half). IsNumbered plan blocks number x) (sym b.0) h
becomes plan blocks number reach (One first) half Pair b h i e = of_one plan blocks number reach first half b h i e

here : (e : Marked) → Contains (e ∷ []) e
here e = (0, omega arith, refl)

at_number : (plan : Plan) (blocks : List Marked) (old new : Causes) (number : ℕ) (half : Half) (test : Bool) → nat_lt number (length old.slots.items) ≡ test → IsAdded old number half new
    → Holds plan blocks number (get_or old.slots.items number Empty) → IsNumbered plan blocks number half → old.reach ≡ reach_of plan.policy → Holds plan blocks number (get_or new.slots.items number Empty)
at_number plan blocks old new number half true e added h i r =
    becomes plan blocks number old.reach (get_or old.slots.items number Empty) half (get_or new.slots.items number Empty) (added.slot (ltb-true number (length old.slots.items) e)) h i r
at_number plan blocks old new number half false e added h i r =
    subst (λ (c : Causes). Holds plan blocks number (get_or c.slots.items number Empty)) (sym (added.unknown (ltb-false number (length old.slots.items) e))) h

at_any : (plan : Plan) (blocks : List Marked) (old new : Causes) (number other : ℕ) (half : Half) (test : Bool) → (other == number) ≡ test → IsAdded old number half new
    → Holds plan blocks other (get_or old.slots.items other Empty) → IsNumbered plan blocks number half → old.reach ≡ reach_of plan.policy → Holds plan blocks other (get_or new.slots.items other Empty)
at_any plan blocks old new number other half true e added h i r =
    let same : number ≡ other = sym (eqb-true other number e) in
    subst (λ (n : ℕ). Holds plan blocks n (get_or new.slots.items n Empty)) same
    (at_number plan blocks old new number half (nat_lt number (length old.slots.items)) refl added
    (subst (λ (n : ℕ). Holds plan blocks n (get_or old.slots.items n Empty)) (sym same) h) i r)
at_any plan blocks old new number other half false e added h i r =
    let differs : other ≢ number = eqb-false other number e in
    subst (λ (s : Slot). Holds plan blocks other s) (sym (added.others other differs)) h

noted : (plan : Plan) (blocks : List Marked) (one : Marked) (old new : Causes) → AreCauses plan blocks old → IsNoted plan one old new → AreCauses plan (blocks ++ one ∷ []) new
noted plan blocks one old new are n =
    let among = Contains-append_right blocks (one ∷ []) one (here one) in
    let numbered : IsNumbered plan (blocks ++ one ∷ []) n.number n.half = record { one = one; among = among; number_is = n.number_is; half_is = n.half_is } in
    record {
      reach = n.added.reach ∙ are.reach;
      slots = λ other.
          at_any plan (blocks ++ one ∷ []) old new n.number other n.half (other == n.number) refl n.added
          (holds_more plan blocks (one ∷ []) other (get_or old.slots.items other Empty) (are.slots other)) numbered are.reach;
    }

-- with a block more, whether it is noted or not
pub causes-one : (plan : Plan) (blocks : List Marked) (one : Marked) (old new : Causes) → AreCauses plan blocks old → Notes plan one old new → AreCauses plan (blocks ++ one ∷ []) new
causes-one plan blocks one old new are (inr n) = noted plan blocks one old new are n
causes-one plan blocks one old new are (inl e) = rw e (record {
  reach = are.reach;
  slots = λ other. holds_more plan blocks (one ∷ []) other (get_or old.slots.items other Empty) (are.slots other);
})

-- what is known of a block by the parts of its mark
pub notes_by : (p q : Plan) (b : Block) (proposal : Option Proposal) (line cause : Option ℕ) (old middle after new : Causes) → q ≡ p → line ≡ line_of q (proposed_line proposal) b
    → cause ≡ proposed_cause proposal → middle ≡ old → new ≡ after → Notes q (record { block = b; line = line; cause = cause }) middle after → Notes p (marked_of p proposal b) old new
notes_by p q b proposal line cause old middle after new eq el ec em en n =
    subst (λ (c : Causes). Notes p (marked_of p proposal b) old c) (sym en)
    (subst (λ (c : Causes). Notes p (marked_of p proposal b) c after) em
    (subst (λ (x : Plan). Notes x (marked_of x proposal b) middle after) eq
    (subst (λ (l : Option ℕ). Notes q (record { block = b; line = l; cause = proposed_cause proposal }) middle after) el
    (subst (λ (k : Option ℕ). Notes q (record { block = b; line = line; cause = k }) middle after) ec n))))

with_slot : ℕ → Slot → List ℕ → List ℕ
with_slot n Empty rest = rest
with_slot n (One half) rest = rest
with_slot n Pair rest = n ∷ rest

pairs_from : ℕ → List Slot → List ℕ
pairs_from n [] = []
pairs_from n (slot ∷ rest) = with_slot n slot (pairs_from (suc n) rest)

ascends : (least n : ℕ) (slots : List Slot) → least ≤ n → Ascend least (pairs_from n slots)
unfolding pairs_from with_slot
ascends least n [] le = tt
ascends least n (Empty ∷ rest) le = ascends least (suc n) rest (omega (arith, le))
ascends least n (One half ∷ rest) le = ascends least (suc n) rest (omega (arith, le))
ascends least n (Pair ∷ rest) le = (le, ascends (suc n) (suc n) rest (omega arith))

counted : (n : ℕ) (slots : List Slot) → length (pairs_from n slots) ≡ pairs_in slots
unfolding pairs_from with_slot
counted n [] = refl
counted n (Empty ∷ rest) = counted (suc n) rest
counted n (One half ∷ rest) = counted (suc n) rest
counted n (Pair ∷ rest) = ap suc (counted (suc n) rest)

abbrev HoldFrom : Plan → List Marked → ℕ → List Slot → Type 0
HoldFrom plan blocks n slots = (i : ℕ) → Holds plan blocks (n + i) (get_or slots i Empty)

hold_rest : (plan : Plan) (blocks : List Marked) (n : ℕ) (slot : Slot) (rest : List Slot) → HoldFrom plan blocks n (slot ∷ rest) → HoldFrom plan blocks (suc n) rest
hold_rest plan blocks n slot rest h i =
    let next : n + suc i ≡ suc n + i = omega arith in subst (λ (m : ℕ). Holds plan blocks m (get_or rest i Empty)) next (h (suc i))

paired_from : (plan : Plan) (blocks : List Marked) (n : ℕ) (slots : List Slot) → HoldFrom plan blocks n slots → AllByRecursion (IsPaired plan blocks) (pairs_from n slots)
unfolding pairs_from with_slot
paired_from plan blocks n [] h = tt
paired_from plan blocks n (Empty ∷ rest) h = paired_from plan blocks (suc n) rest (hold_rest plan blocks n Empty rest h)
paired_from plan blocks n (One half ∷ rest) h = paired_from plan blocks (suc n) rest (hold_rest plan blocks n (One half) rest h)
paired_from plan blocks n (Pair ∷ rest) h =
    let first : n + 0 ≡ n = omega arith in
    (subst (λ (m : ℕ). IsPaired plan blocks m) first (h 0), paired_from plan blocks (suc n) rest (hold_rest plan blocks n Pair rest h))

-- each group has its packets
pub are_carried : (plan : Plan) (blocks : List Marked) (tallies : Tallies) → AreTallies plan blocks tallies → AreCarried plan blocks (carried_of tallies)
are_carried plan blocks tallies are = record {
  groups = tallies.groups.groups.items;
  group_is = are.groups;
  counted = ap (λ (r : Reach). carried_with 0 r tallies.groups.groups.items) are.causes.reach;
}

pub are_paired : (plan : Plan) (blocks : List Marked) (causes : Causes) → AreCauses plan blocks causes → ArePaired plan blocks (pairs_in causes.slots.items)
are_paired plan blocks causes are =
    let from : HoldFrom plan blocks 0 causes.slots.items = λ i. let same : i ≡ 0 + i = omega arith in subst (λ (m : ℕ). Holds plan blocks m (get_or causes.slots.items i Empty)) same (are.slots i) in
    record {
      numbers = pairs_from 0 causes.slots.items;
      different = ascends 0 0 causes.slots.items (omega arith);
      counted = counted 0 causes.slots.items;
      paired = paired_from plan blocks 0 causes.slots.items from;
    }
