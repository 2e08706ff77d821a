use Rattle.std.proofs.Common.{◌∙◌, refl, arith}
use Rattle.std.proofs.lemmas.Result.{err_from_is_err_and}
use Rattle.audit_pcapng.specs.Captures.{IsCut}
use Rattle.audit_pcapng.specs.Packets.{given_of}
use Rattle.audit_pcapng.proofs.Prefixes.{shown_as, none_as, fault_as, few}
use Rattle.audit_pcapng.proofs.Completing.{still_cut, fits_exactly, shown_still}
use Rattle.prep_blocks.proofs.Holding.{moves_then, all_moved, bad_heading, bad_block, whole_block}
use Rattle.prep_blocks.proofs.splitter.split.Goals as goal

pub returns-in_err-heading-clause-err : goal.returns-in_err-heading-clause-err
returns-in_err-heading-clause-err c =
    let p = err_from_is_err_and c.from_residual-in_err-heading.result c.from_residual-in_err-heading.ensures.1 in
    let shown = rw c.deref.ensures.value at (fault_as c.args.scope.now.order c.order.result c.deref.result.now c.in_err-heading.field-0.0 c.order.ensures c.in_err-heading.ensures.exact) in
    rw (p.1, p.2) (λ cut named. bad_heading c.args.scope.now c.args.held.now.items c.hold.new.held.items c.args.piece.now c.in_ok-rest.rest.now c.in_err-heading.field-0.0 c.in_ok-rest.ensures.moves shown)

pub returns-in_default-clause-none : goal.returns-in_default-clause-none
returns-in_default-clause-none c =
    let none = rw c.deref.ensures.value at (none_as c.args.scope.now.order c.order.result c.deref.result.now c.in_ok-heading.field-0 c.order.ensures c.in_ok-heading.ensures.exact c.in_default.is) in
    all_moved c.args.held.now.items c.hold.new.held.items c.args.piece.now c.in_ok-rest.rest.now c.in_ok-rest.ensures.moves (c.in_ok-rest.ensures.enough (few c.args.scope.now.order c.hold.new.held.items none))

pub returns-then-len-heading-clause-cut : goal.returns-then-len-heading-clause-cut
returns-then-len-heading-clause-cut c =
    let shown = rw c.deref.ensures.value at (shown_as c.args.scope.now.order c.order.result c.deref.result.now c.in_ok-heading.field-0 c.in-Some.heading c.order.ensures c.in_ok-heading.ensures.exact c.in-Some.is) in
    still_cut c.args.scope.now c.hold-2.new.held.items c.hold.new.held.items c.in-Some.heading (c.in_ok-rest-2.ensures.moves.taken, c.in_ok-rest-2.ensures.moves.grown) shown (omega arith)

pub returns-then-len-heading-clause-none : goal.returns-then-len-heading-clause-none
returns-then-len-heading-clause-none c =
    all_moved c.args.held.now.items c.hold-2.new.held.items c.args.piece.now c.in_ok-rest-2.rest.now
    (moves_then c.args.held.now.items c.hold.new.held.items c.hold-2.new.held.items c.args.piece.now c.in_ok-rest.rest.now c.in_ok-rest-2.rest.now c.in_ok-rest.ensures.moves c.in_ok-rest-2.ensures.moves)
    (c.in_ok-rest-2.ensures.enough (omega arith))

pub returns-in_err-take_block-clause-err : goal.returns-in_err-take_block-clause-err
returns-in_err-take_block-clause-err c =
    let p = err_from_is_err_and c.from_residual-in_err-take_block.result c.from_residual-in_err-take_block.ensures.1 in
    let shown = rw c.deref.ensures.value at (shown_as c.args.scope.now.order c.order.result c.deref.result.now c.in_ok-heading.field-0 c.in-Some.heading c.order.ensures c.in_ok-heading.ensures.exact c.in-Some.is) in
    let long = (rw c.in-Some.is at c.in_ok-heading.ensures.long).0 in
    let whole = λ (cut : IsCut c.args.scope.now c.args.held.now.items). fits_exactly c.args.scope.now c.args.held.now.items c.hold-2.new.held.items c.hold.new.held.items c.in-Some.heading cut (c.in_ok-rest.ensures.moves.taken, c.in_ok-rest.ensures.moves.grown) shown long c.in_ok-rest.ensures.no_more c.in_ok-rest-2.ensures.no_more (omega arith) in
    rw (p.1, p.2) (λ cut named. bad_block c.args.scope.now c.args.held.now.items c.hold-2.new.held.items c.args.piece.now c.in_ok-rest-2.rest.now c.in-Some.heading c.in_err-take_block.field-0.0
    (moves_then c.args.held.now.items c.hold.new.held.items c.hold-2.new.held.items c.args.piece.now c.in_ok-rest.rest.now c.in_ok-rest-2.rest.now c.in_ok-rest.ensures.moves c.in_ok-rest-2.ensures.moves)
    (shown_still c.args.scope.now c.hold-2.new.held.items c.hold.new.held.items c.in-Some.heading (c.in_ok-rest-2.ensures.moves.taken, c.in_ok-rest-2.ensures.moves.grown) shown)
    (whole cut) (rw c.deref-2.ensures.value at (c.in_err-take_block.ensures.1 named)))

pub returns-clause-some : goal.returns-clause-some
returns-clause-some c =
    let shown = rw c.deref.ensures.value at (shown_as c.args.scope.now.order c.order.result c.deref.result.now c.in_ok-heading.field-0 c.in-Some.heading c.order.ensures c.in_ok-heading.ensures.exact c.in-Some.is) in
    let long = (rw c.in-Some.is at c.in_ok-heading.ensures.long).0 in
    let whole = λ (cut : IsCut c.args.scope.now c.args.held.now.items). fits_exactly c.args.scope.now c.args.held.now.items c.hold-2.new.held.items c.hold.new.held.items c.in-Some.heading cut (c.in_ok-rest.ensures.moves.taken, c.in_ok-rest.ensures.moves.grown) shown long c.in_ok-rest.ensures.no_more c.in_ok-rest-2.ensures.no_more (omega arith) in
    λ cut. whole_block c.args.scope.now c.take_block.new.self c.args.held.now.items c.hold-2.new.held.items c.args.piece.now c.in_ok-rest-2.rest.now c.in-Some.heading (given_of c.in_ok-take_block.field-0) _
    (moves_then c.args.held.now.items c.hold.new.held.items c.hold-2.new.held.items c.args.piece.now c.in_ok-rest.rest.now c.in_ok-rest-2.rest.now c.in_ok-rest.ensures.moves c.in_ok-rest-2.ensures.moves)
    (shown_still c.args.scope.now c.hold-2.new.held.items c.hold.new.held.items c.in-Some.heading (c.in_ok-rest-2.ensures.moves.taken, c.in_ok-rest-2.ensures.moves.grown) shown)
    (whole cut) (rw c.deref-2.ensures.value at c.in_ok-take_block.ensures)
    (c.from.ensures ∙ (rw c.replace-bytes.ensures.value refl)) refl refl c.of-packet.ensures
