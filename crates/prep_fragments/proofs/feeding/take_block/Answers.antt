use Rattle.std.proofs.Common.{◌≡◌, ◌∙◌, [], Option, Some, None, sym, subst}
use Rattle.prep_fragments.specs.declared.begun.Begun.{Begun}
use Rattle.prep_fragments.specs.Parts.{part_of}
use Rattle.prep_fragments.specs.Opens.{opened, extended}
use Rattle.prep_fragments.specs.Reassembling.{pending, IsHeld}
use Rattle.prep_fragments.proofs.Held.{holds_part, put_twice, held_first, held_next, held_none}
use Rattle.prep_fragments.proofs.feeding.take_block.Goals as goal

pub returns-in_default-take_out-clause-holds : goal.returns-in_default-take_out-clause-holds
returns-in_default-take_out-clause-holds c = λ blocks h.
    let b = c.args.block in
    let part = c.in-Some.part in
    let is : part_of b ≡ Some part = sym c.part_of.ensures ∙ c.in-Some.is in
    let nothing : pending part.key blocks ≡ [] = subst (λ (o : Option Begun). IsHeld o (pending part.key blocks)) (sym c.take_out.ensures.found ∙ c.in_default-take_out.is) (h part.key) in
    holds_part c.args.opens.now c.start.new.opens blocks b part (Some (opened b)) h is
    (put_twice c.args.opens.now c.take_out.new.self c.start.new.opens part (Some (opened b)) c.take_out.ensures.others c.in_ok-start.ensures.put)
    (held_first b part.has_more (pending part.key blocks) c.in_ok-start.ensures.more nothing)

pub returns-then-part-clause-holds : goal.returns-then-part-clause-holds
returns-then-part-clause-holds c = λ blocks h.
    let b = c.args.block in
    let part = c.in-Some.part in
    let begun = c.in-Some-take_out.begun in
    let is : part_of b ≡ Some part = sym c.part_of.ensures ∙ c.in-Some.is in
    let held = subst (λ (o : Option Begun). IsHeld o (pending part.key blocks)) (sym c.take_out.ensures.found ∙ c.in-Some-take_out.is) (h part.key) in
    holds_part c.args.opens.now c.go_on.new.opens blocks b part (Some (extended begun b)) h is
    (put_twice c.args.opens.now c.take_out.new.self c.go_on.new.opens part (Some (extended begun b)) c.take_out.ensures.others c.in_ok-go_on.ensures)
    (held_next begun b part.has_more (pending part.key blocks) c.if-part.true held)

pub returns-clause-holds : goal.returns-clause-holds
returns-clause-holds c = λ blocks h.
    let b = c.args.block in
    let part = c.in-Some.part in
    let is : part_of b ≡ Some part = sym c.part_of.ensures ∙ c.in-Some.is in
    holds_part c.args.opens.now c.take_out.new.self blocks b part None h is c.take_out.ensures.others
    (held_none b part.has_more (pending part.key blocks) c.if-part.false)
