use Rattle.std.proofs.Common.{◌≡◌, ◌+◌, ◌≤◌, ◌++◌, ◌∙◌, ℕ, List, length, refl, sym, ap, arith}
use Rattle.std.proofs.lemmas.List.{nil_from_length, length-append}
use Rattle.prep_fragments.proofs.Going.{nothing_yet, step, all_taken, at_end}
use Rattle.prep_fragments.proofs.reassembler.Reassembler.feed.Goals as goal

pub loop-init : goal.loop-init
loop-init c = λ text blocks at. (nothing_yet c.args.self.now text blocks c.args.piece.now c.args.out.now.items at, omega arith)

pub returns-in_default : goal.returns-in_default
returns-in_default c = λ text blocks at.
    let so_far = (c.loop.invariant text blocks at).0 in
    all_taken c.loop.self _ text blocks c.args.piece.now c.loop.rest.now c.args.out.now.items c.loop.out.items so_far
    (rw c.in_default.is at (c.in_ok-block.ensures.none _ _ so_far.reassembling.splits)) refl

pub loop-preserved : goal.loop-preserved
loop-preserved c = λ text blocks at.
    let so_far = (c.loop.invariant text blocks at).0 in
    let fits = (c.loop.invariant text blocks at).1 in
    let gave = rw c.in-Some.is at (c.in_ok-block.ensures.block _ _ so_far.reassembling.splits) in
    let rest_short : length c.in-Some.behind.now + (c.loop.counter + 1) ≤ length c.args.piece.now = omega (arith, fits, gave.some, ap length gave.cut, length-append gave.taken c.in-Some.behind.now) in
    let e = c.in_ok-take_block.ensures in (
      step c.loop.self _ text blocks c.args.piece.now c.loop.rest.now c.in-Some.behind.now c.args.out.now.items c.loop.out.items c.take_block.new.out.items c.in-Some.block so_far gave
          (e.holds (blocks ++ so_far.more) so_far.reassembling.holds) (e.fits (blocks ++ so_far.more) so_far.reassembling.holds) (e.written (blocks ++ so_far.more) so_far.reassembling.holds),
      rest_short,
    )

pub returns : goal.returns
returns c = λ text blocks at.
    let so_far = (c.loop.invariant text blocks at).0 in
    let fits = (c.loop.invariant text blocks at).1 in
    let none : length c.loop.rest.now ≡ 0 = omega (arith, fits) in
    at_end c.loop.self text blocks c.args.piece.now c.loop.rest.now c.args.out.now.items c.loop.out.items (nil_from_length c.loop.rest.now none) so_far
