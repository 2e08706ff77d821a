use Rattle.std.proofs.Common.{◌++◌, ◌+◌, [], arith, sym, map, drop, ◌∙◌}
use Rattle.std.proofs.lemmas.Bool.{true≢false}
use Rattle.audit_order.specs.Grown.{empty_lane}
use Rattle.audit_order.proofs.FittingSteps.{pairs_more, apart_more, apart_no_more, whole}
use Rattle.audit_order.proofs.fitting.are_apart.Goals as goal

pub returns-then-is_known : goal.returns-then-is_known
returns-then-is_known c = λ lanes of apart.
    let i = c.new.client-index in (
      λ is. absurd (true≢false (sym is)),
      λ all. absurd (apart_no_more lanes c.args.new.now i _ (omega arith) c.args.pairs.now c.new.seen of c.new.invariant.seen (sym c.is_known.ensures ∙ c.if-is_known.true)
          (lanes ++ map empty_lane c.args.new.now) (map empty_lane (drop (i + 1) c.args.new.now)) (whole lanes c.args.new.now (i + 1)) all),
    )

pub new-preserved : goal.new-preserved
new-preserved c =
    let i = c.new.client-index in
    record {
      seen = pairs_more c.new.seen c.insert.new.self [] c.args.new.now i _ (omega arith) c.new.invariant.seen c.in_ok-insert.ensures.ok;
      apart = λ lanes of apart.
          apart_more lanes c.args.new.now i _ (omega arith) c.args.pairs.now c.new.seen of c.new.invariant.seen (sym c.is_known.ensures ∙ c.if-is_known.false)
          (c.new.invariant.apart lanes of apart);
    }
