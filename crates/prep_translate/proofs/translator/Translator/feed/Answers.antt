use Rattle.std.proofs.Common.{◌≡◌, ◌∙◌, ◌++◌, ◌+◌, ◌≤◌, length, refl, ap, arith}
use Rattle.std.proofs.lemmas.List.{nil_from_length, length-append}
use Rattle.std.proofs.lemmas.Result.{err_from_is_err_and}
use Rattle.prep_translate.proofs.Going.{nothing_yet, all_fit, step, all_taken, fault_of_text, fault_of_block, at_end}
use Rattle.prep_translate.specs.Tallied.{tallied}
use Rattle.prep_translate.proofs.translator.Translator.feed.Goals as goal

pub returns-in_err-block-clause-err : goal.returns-in_err-block-clause-err
returns-in_err-block-clause-err c = λ text blocks at.
    let p = err_from_is_err_and c.from_residual.result c.from_residual.ensures.1 in
    let so_far = (c.loop.invariant text blocks at).0 in
    rw (p.1, p.2) (fault_of_text c.args.renaming.now c.loop.self text blocks c.args.piece.now c.loop.rest.now c.args.out.now.items c.loop.out.items c.in_err-block.field-0.0 so_far
    (c.in_err-block.ensures.err _ _ so_far.translating.splits))

pub returns-in_default-clause-ok : goal.returns-in_default-clause-ok
returns-in_default-clause-ok c = λ text blocks at.
    let so_far = (c.loop.invariant text blocks at).0 in
    all_taken c.args.renaming.now c.loop.self _ text blocks c.args.piece.now c.loop.rest.now c.args.out.now.items c.loop.out.items so_far
    (rw c.in_default.is at (c.in_ok-block.ensures.none _ _ so_far.translating.splits)) refl

pub returns-clause-ok : goal.returns-clause-ok
returns-clause-ok c = λ text blocks at.
    let so_far = (c.loop.invariant text blocks at).0 in
    let fits = (c.loop.invariant text blocks at).1 in
    let none : length c.loop.rest.now ≡ 0 = omega (arith, fits) in
    at_end c.args.renaming.now c.loop.self text blocks c.args.piece.now c.loop.rest.now c.args.out.now.items c.loop.out.items (nil_from_length c.loop.rest.now none) so_far

pub loop-init : goal.loop-init
loop-init c = λ text blocks at. (nothing_yet c.args.renaming.now c.args.self.now text blocks c.args.piece.now c.args.out.now.items at, omega arith)

pub returns-in_err-moved-clause-err : goal.returns-in_err-moved-clause-err
returns-in_err-moved-clause-err c = λ text blocks at.
    let p = err_from_is_err_and c.from_residual-in_err-moved.result c.from_residual-in_err-moved.ensures.1 in
    let so_far = (c.loop.invariant text blocks at).0 in
    rw (p.1, p.2) (fault_of_block c.args.renaming.now c.loop.self (record c.loop.self { splitter = c.next.new.self }) text blocks c.args.piece.now c.loop.rest.now c.in-Some.behind.now c.args.out.now.items c.loop.out.items c.in-Some.block c.in_err-moved.field-0.0 so_far
    (rw c.in-Some.is at (c.in_ok-block.ensures.block _ _ so_far.translating.splits)) c.in_err-moved.ensures.err)

pub loop-preserved : goal.loop-preserved
loop-preserved c = λ text blocks at.
    let so_far = (c.loop.invariant text blocks at).0 in
    let fits = (c.loop.invariant text blocks at).1 in
    let gave = rw c.in-Some.is at (c.in_ok-block.ensures.block _ _ so_far.translating.splits) in
    let rest_short : length c.in-Some.behind.now + (c.loop.counter + 1) ≤ length c.args.piece.now = omega (arith, fits, gave.some, ap length gave.cut, length-append gave.taken c.in-Some.behind.now) in (
      step c.args.renaming.now c.loop.self _ text blocks c.args.piece.now c.loop.rest.now c.in-Some.behind.now c.args.out.now.items c.loop.out.items c.translate.new.out.items c.in-Some.block so_far gave
          (all_fit c.args.renaming.now (blocks ++ so_far.more) c.in-Some.block so_far.translating.fit c.in_ok-moved.ensures.fits)
          (c.with-self.ensures ∙ ap (tallied c.loop.self.tally) c.in_ok-moved.ensures.told) c.in_ok-moved.ensures.written,
      rest_short,
    )
