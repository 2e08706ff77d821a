use Rattle.std.proofs.Common.{arith}
use Rattle.audit_faults.proofs.Keying.{has_keyed}
use Rattle.audit_faults.proofs.keyed.span_of_key.Goals as goal

pub returns-clause-has : goal.returns-clause-has
returns-clause-has c rising =
    has_keyed c.args.keyed.now c.args.key c.args.low c.args.high c.places_below.result c.places_through.result rising c.places_below.ensures.bound
    (λ one h. let below = c.places_below.ensures.below one h in omega (arith, below))
    (λ one h. let above = c.places_through.ensures.above one h in omega (arith, above))
