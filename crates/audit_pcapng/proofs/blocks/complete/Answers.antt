use Rattle.std.proofs.Common.{◌∙◌, ◌++◌, arith}
use Rattle.std.proofs.lemmas.Result.{err_from_is_err_and}
use Rattle.audit_pcapng.specs.Captures.{IsCut}
use Rattle.audit_pcapng.proofs.Prefixes.{shown_as, none_as, fault_as, few}
use Rattle.audit_pcapng.proofs.Completing.{no_memory, bad_heading, all_held, still_cut, fits_exactly, shown_still, bad_block, whole_block}
use Rattle.audit_pcapng.proofs.blocks.complete.Goals as goal

pub returns-in_err-rest-clause-err : goal.returns-in_err-rest-clause-err
returns-in_err-rest-clause-err c =
    let p = err_from_is_err_and c.from_residual.result c.from_residual.ensures.1 in
    λ cut. rw (p.1, p.2) (no_memory c.args.scope.now (c.args.held.now.items ++ c.args.piece.now) c.args.out.now.items c.in_err-rest.field-0.0 c.in_err-rest.ensures.memory)

pub returns-in_err-heading-clause-err : goal.returns-in_err-heading-clause-err
returns-in_err-heading-clause-err c =
    let p = err_from_is_err_and c.from_residual-in_err-heading.result c.from_residual-in_err-heading.ensures.1 in
    let shown = rw c.deref.ensures.value at (fault_as c.args.scope.now.order c.order.result c.deref.result.now c.in_err-heading.field-0.0 c.order.ensures c.in_err-heading.ensures.exact) in
    λ cut. rw (p.1, p.2) (bad_heading c.args.scope.now (c.args.held.now.items ++ c.args.piece.now) c.hold.new.held.items c.in_ok-rest.rest.now c.args.out.now.items c.in_err-heading.field-0.0 c.in_ok-rest.ensures.all shown)

pub returns-in_default-clause-ok : goal.returns-in_default-clause-ok
returns-in_default-clause-ok c =
    let none = rw c.deref.ensures.value at (none_as c.args.scope.now.order c.order.result c.deref.result.now c.in_ok-heading.field-0 c.order.ensures c.in_ok-heading.ensures.exact c.in_default.is) in
    λ cut. all_held c.args.scope.now (c.args.held.now.items ++ c.args.piece.now) c.hold.new.held.items c.in_ok-rest.rest.now 12 c.args.out.now.items c.in_ok-rest.ensures.all c.in_ok-rest.ensures.enough
    (few c.args.scope.now.order c.hold.new.held.items none)

pub returns-in_err-rest-2-clause-err : goal.returns-in_err-rest-2-clause-err
returns-in_err-rest-2-clause-err c =
    let p = err_from_is_err_and c.from_residual-in_err-rest-2.result c.from_residual-in_err-rest-2.ensures.1 in
    λ cut. rw (p.1, p.2) (no_memory c.args.scope.now (c.args.held.now.items ++ c.args.piece.now) c.args.out.now.items c.in_err-rest-2.field-0.0 c.in_err-rest-2.ensures.memory)

pub returns-then-len-heading-clause-cut : goal.returns-then-len-heading-clause-cut
returns-then-len-heading-clause-cut c =
    let shown = rw c.deref.ensures.value at (shown_as c.args.scope.now.order c.order.result c.deref.result.now c.in_ok-heading.field-0 c.in-Some.heading c.order.ensures c.in_ok-heading.ensures.exact c.in-Some.is) in
    still_cut c.args.scope.now c.hold-2.new.held.items c.hold.new.held.items c.in-Some.heading c.in_ok-rest-2.ensures.grows shown (omega arith)

pub returns-then-len-heading-clause-ok : goal.returns-then-len-heading-clause-ok
returns-then-len-heading-clause-ok c =
    λ cut. all_held c.args.scope.now (c.args.held.now.items ++ c.args.piece.now) c.hold-2.new.held.items c.in_ok-rest-2.rest.now c.in-Some.heading.length c.args.out.now.items (c.in_ok-rest-2.ensures.all ∙ c.in_ok-rest.ensures.all) c.in_ok-rest-2.ensures.enough (omega arith)

pub returns-in_err-take_block-clause-err : goal.returns-in_err-take_block-clause-err
returns-in_err-take_block-clause-err c =
    let p = err_from_is_err_and c.from_residual-in_err-take_block.result c.from_residual-in_err-take_block.ensures.1 in
    let shown = rw c.deref.ensures.value at (shown_as c.args.scope.now.order c.order.result c.deref.result.now c.in_ok-heading.field-0 c.in-Some.heading c.order.ensures c.in_ok-heading.ensures.exact c.in-Some.is) in
    let long = (rw c.in-Some.is at c.in_ok-heading.ensures.long).0 in
    let whole = λ (cut : IsCut c.args.scope.now c.args.held.now.items). fits_exactly c.args.scope.now c.args.held.now.items c.hold-2.new.held.items c.hold.new.held.items c.in-Some.heading cut c.in_ok-rest.ensures.grows shown long c.in_ok-rest.ensures.no_more c.in_ok-rest-2.ensures.no_more (omega arith) in
    λ cut. rw (p.1, p.2) (bad_block c.args.scope.now (c.args.held.now.items ++ c.args.piece.now) c.hold-2.new.held.items c.in_ok-rest-2.rest.now c.deref-2.result.now c.in-Some.heading c.args.out.now.items c.take_block.new.out.items c.in_err-take_block.field-0.0
    (c.in_ok-rest-2.ensures.all ∙ c.in_ok-rest.ensures.all) (shown_still c.args.scope.now c.hold-2.new.held.items c.hold.new.held.items c.in-Some.heading c.in_ok-rest-2.ensures.grows shown) (whole cut) c.deref-2.ensures.value c.in_err-take_block.ensures.err c.in_err-take_block.ensures.unchanged)

pub returns-clause-ok : goal.returns-clause-ok
returns-clause-ok c =
    let shown = rw c.deref.ensures.value at (shown_as c.args.scope.now.order c.order.result c.deref.result.now c.in_ok-heading.field-0 c.in-Some.heading c.order.ensures c.in_ok-heading.ensures.exact c.in-Some.is) in
    let long = (rw c.in-Some.is at c.in_ok-heading.ensures.long).0 in
    let whole = λ (cut : IsCut c.args.scope.now c.args.held.now.items). fits_exactly c.args.scope.now c.args.held.now.items c.hold-2.new.held.items c.hold.new.held.items c.in-Some.heading cut c.in_ok-rest.ensures.grows shown long c.in_ok-rest.ensures.no_more c.in_ok-rest-2.ensures.no_more (omega arith) in
    λ cut. whole_block c.args.scope.now c.take_block.new.scope (c.args.held.now.items ++ c.args.piece.now) c.hold-2.new.held.items c.in_ok-rest-2.rest.now c.deref-2.result.now c.in-Some.heading c.args.out.now.items c.take_block.new.out.items
    (c.in_ok-rest-2.ensures.all ∙ c.in_ok-rest.ensures.all) (shown_still c.args.scope.now c.hold-2.new.held.items c.hold.new.held.items c.in-Some.heading c.in_ok-rest-2.ensures.grows shown) (whole cut) c.deref-2.ensures.value c.in_ok-take_block.ensures.ok
