use Rattle.std.proofs.Common.{arith}
use Rattle.std.proofs.lemmas.Result.{err_from_is_err_and}
use Rattle.audit_pcapng.proofs.Prefixes.{shown_as, fault_as}
use Rattle.audit_pcapng.proofs.Texts.{Consumes-none, one_more, stops_by_heading, stops_by_block, cut_by_end}
use Rattle.audit_pcapng.proofs.blocks.take_blocks.Goals as goal

pub loop-init : goal.loop-init
loop-init c = record { consumed = Consumes-none c.args.scope.now c.args.bytes.now c.args.out.now.items; fits = omega arith }

pub returns-in_err-heading-clause-err : goal.returns-in_err-heading-clause-err
returns-in_err-heading-clause-err c =
    let p = err_from_is_err_and c.from_residual.result c.from_residual.ensures.1 in
    rw (p.1, p.2) (stops_by_heading c.args.scope.now c.loop.scope c.args.bytes.now c.loop.rest.now c.args.out.now.items c.loop.out.items c.in_err-heading.field-0.0
    c.loop.invariant.consumed (fault_as c.loop.scope.order c.order.result c.loop.rest.now c.in_err-heading.field-0.0 c.order.ensures c.in_err-heading.ensures.exact))

pub returns-in_err-take_block-clause-err : goal.returns-in_err-take_block-clause-err
returns-in_err-take_block-clause-err c =
    let p = err_from_is_err_and c.from_residual-in_err-take_block.result c.from_residual-in_err-take_block.ensures.1 in
    let shown = shown_as c.loop.scope.order c.order.result c.loop.rest.now c.in_ok-heading.field-0 c.in-Some.heading c.order.ensures c.in_ok-heading.ensures.exact c.in-Some.is in
    rw (p.1, p.2) (stops_by_block c.args.scope.now c.loop.scope c.args.bytes.now c.loop.rest.now c.split_at.result.0.now c.in-Some.heading c.args.out.now.items c.loop.out.items c.take_block.new.out.items c.in_err-take_block.field-0.0
    c.loop.invariant.consumed shown c.if-rest-heading.false c.split_at.ensures.front c.in_err-take_block.ensures.err c.in_err-take_block.ensures.unchanged)

pub loop-preserved : goal.loop-preserved
loop-preserved c =
    let shown = shown_as c.loop.scope.order c.order.result c.loop.rest.now c.in_ok-heading.field-0 c.in-Some.heading c.order.ensures c.in_ok-heading.ensures.exact c.in-Some.is in
    let long = (rw c.in-Some.is at c.in_ok-heading.ensures.long).0 in
    record {
      consumed = one_more c.args.scope.now c.loop.scope c.take_block.new.scope c.args.bytes.now c.loop.rest.now c.split_at.result.0.now c.split_at.result.1.now c.in-Some.heading c.args.out.now.items c.loop.out.items c.take_block.new.out.items
          c.loop.invariant.consumed shown c.if-rest-heading.false long c.split_at.ensures.front c.split_at.ensures.back c.in_ok-take_block.ensures.ok;
      fits = omega (arith, c.loop.invariant.fits, long, c.split_at.ensures.back_len);
    }

pub returns-clause-cut : goal.returns-clause-cut
returns-clause-cut c = cut_by_end c.loop.scope c.loop.rest.now (omega (arith, c.loop.invariant.fits))
