use Rattle.std.proofs.Common.{◌≡◌, ◌+◌, ◌≤◌, length, ◌++◌, refl, ap, subst, sym, arith, Bor}
use Rattle.std.proofs.lemmas.List.{nil_from_length, length-append}
use Rattle.audit_model.specs.declared.policy.Policy.{Policy}
use Rattle.prep_blocks.specs.declared.splitter.BlockSplitter.{BlockSplitter}
use Rattle.prep_blocks.specs.Splitting.{Gave}
use Rattle.prep_records.proofs.Going.{nothing_yet, step, all_taken, at_end}
use Rattle.prep_records.proofs.recorder.Recorder.feed.Goals as goal

pub loop-init : goal.loop-init
loop-init c = λ policy since earlier text current at. (nothing_yet c.args.self.now policy since earlier text current c.args.piece.now at, omega arith)

pub returns-in_default : goal.returns-in_default
returns-in_default c = λ policy since earlier text current at.
    let so_far = (c.loop.invariant policy since earlier text current at).0 in
    all_taken c.loop.self _ policy since earlier text current c.args.piece.now c.loop.rest.now so_far
    (rw c.in_default.is at (c.in_ok-block.ensures.none _ _ so_far.recording.splits)) refl refl refl

pub loop-preserved : goal.loop-preserved
loop-preserved c = λ policy since earlier text current at.
    let so_far = (c.loop.invariant policy since earlier text current at).0 in
    let fits = (c.loop.invariant policy since earlier text current at).1 in
    let gave = rw c.in-Some.is at (c.in_ok-block.ensures.block _ _ so_far.recording.splits) in
    let given = subst (λ (s : BlockSplitter). Gave s (text ++ so_far.taken) (current ++ so_far.more) c.loop.rest.now c.in-Some.block c.in-Some.behind.now) (sym c.note.ensures.splitter) gave in
    let rest_short : length c.in-Some.behind.now + (c.loop.counter + 1) ≤ length c.args.piece.now = omega (arith, fits, gave.some, ap length gave.cut, length-append gave.taken c.in-Some.behind.now) in (
      step c.loop.self _ policy since earlier text current c.args.piece.now c.loop.rest.now c.in-Some.behind.now c.in-Some.block so_far given (ap (λ (p : Bor Policy). p.now) c.note.ensures.policy) c.note.ensures.stated c.in_ok-note.ensures.noted,
      rest_short,
    )

pub returns : goal.returns
returns c = λ policy since earlier text current at.
    let so_far = (c.loop.invariant policy since earlier text current at).0 in
    let fits = (c.loop.invariant policy since earlier text current at).1 in
    let none : length c.loop.rest.now ≡ 0 = omega (arith, fits) in
    at_end c.loop.self policy since earlier text current c.args.piece.now c.loop.rest.now (nil_from_length c.loop.rest.now none) so_far
