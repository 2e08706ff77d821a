use Rattle.std.proofs.Common.{◌≡◌, ◌∙◌, ◌++◌, ◌+◌, ◌≤◌, ℕ, List, length, refl, sym, ap, arith}
use Rattle.std.proofs.lemmas.List.{nil_from_length, length-append}
use Rattle.std.proofs.lemmas.Result.{err_from_is_err_and}
use Rattle.prep_join.proofs.Going.{step_kept, step_left, all_taken, fault_of_text, fault_of_block, at_end}
use Rattle.prep_join.proofs.joiner.Joiner.feed.Goals as goal
use Rattle.prep_join.proofs.joiner.Joiner.feed.Goals.{then-branch+in_ok-extend_from_slice, else-branch}

pub returns-in_err-block-clause-err : goal.returns-in_err-block-clause-err
returns-in_err-block-clause-err c = λ done text current at.
    let p = err_from_is_err_and c.from_residual.result c.from_residual.ensures.1 in
    let so_far = (c.loop.invariant done text current at).0 in
    rw (p.1, p.2) (fault_of_text c.loop.self done text current c.args.piece.now c.loop.rest.now c.args.out.now.items c.loop.out.items c.in_err-block.field-0.0 so_far
    (c.in_err-block.ensures.err _ _ so_far.joining.splits))

pub returns-in_default-clause-ok : goal.returns-in_default-clause-ok
returns-in_default-clause-ok c = λ done text current at.
    let so_far = (c.loop.invariant done text current at).0 in
    all_taken c.loop.self _ done text current c.args.piece.now c.loop.rest.now c.args.out.now.items c.loop.out.items so_far
    (rw c.in_default.is at (c.in_ok-block.ensures.none _ _ so_far.joining.splits)) refl refl

pub returns-in_err-take-clause-err : goal.returns-in_err-take-clause-err
returns-in_err-take-clause-err c = λ done text current at.
    let p = err_from_is_err_and c.from_residual-in_err-take.result c.from_residual-in_err-take.ensures.1 in
    let so_far = (c.loop.invariant done text current at).0 in
    rw (p.1, p.2) (fault_of_block c.loop.self (record c.loop.self { splitter = c.next.new.self }) done text current c.args.piece.now c.loop.rest.now c.in-Some.behind.now c.args.out.now.items c.loop.out.items c.in-Some.block c.in_err-take.field-0.0 so_far
    (rw c.in-Some.is at (c.in_ok-block.ensures.block _ _ so_far.joining.splits)) (c.in_err-take.ensures.err done _ so_far.joining.at))

pub loop-preserved : goal.loop-preserved
loop-preserved c = λ done text current at.
    let so_far = (c.loop.invariant done text current at).0 in
    let fits = (c.loop.invariant done text current at).1 in
    let gave = rw c.in-Some.is at (c.in_ok-block.ensures.block _ _ so_far.joining.splits) in
    let rest_short : length c.in-Some.behind.now + (c.loop.counter + 1) ≤ length c.args.piece.now = omega (arith, fits, gave.some, ap length gave.cut, length-append gave.taken c.in-Some.behind.now) in
    let kept = c.in_ok-take.ensures.kept done (current ++ so_far.more) so_far.joining.at in
    let goes_on = c.in_ok-take.ensures.fits done (current ++ so_far.more) so_far.joining.at in
    let at_ring = c.in_ok-take.ensures.ok done (current ++ so_far.more) so_far.joining.at in (
      (elim c.if-branch.branch [
        | then-branch+in_ok-extend_from_slice w ↦ step_kept c.loop.self _ done text current c.args.piece.now c.loop.rest.now c.in-Some.behind.now c.args.out.now.items c.loop.out.items c.if-branch.out.items c.in-Some.block so_far gave at_ring goes_on c.with-self.ensures
            (sym kept ∙ w.if-branch.true) (rw w.out-is (w.in_ok-extend_from_slice.ensures.items ∙ ap (λ (t : List ℕ). c.loop.out.items ++ t) w.as_slice.ensures))
        | else-branch w ↦ step_left c.loop.self _ done text current c.args.piece.now c.loop.rest.now c.in-Some.behind.now c.args.out.now.items c.loop.out.items c.if-branch.out.items c.in-Some.block so_far gave at_ring goes_on c.with-self.ensures
            (sym kept ∙ w.if-branch.false) (rw w.out-is refl)
      ]),
      rest_short,
    )

pub returns-clause-ok : goal.returns-clause-ok
returns-clause-ok c = λ done text current at.
    let so_far = (c.loop.invariant done text current at).0 in
    let fits = (c.loop.invariant done text current at).1 in
    let none : length c.loop.rest.now ≡ 0 = omega (arith, fits) in
    at_end c.loop.self done text current c.args.piece.now c.loop.rest.now c.args.out.now.items c.loop.out.items (nil_from_length c.loop.rest.now none) so_far
