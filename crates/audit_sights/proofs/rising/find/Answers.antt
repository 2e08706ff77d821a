use Rattle.std.proofs.Common.{◌≡◌, ap, arith}
use Rattle.audit_sights.specs.Pairs.{index_at}
use Rattle.audit_sights.proofs.Places.{index_is}
use Rattle.audit_sights.proofs.rising.find.Goals as goal

pub returns-then-pairs-place : goal.returns-then-pairs-place
returns-then-pairs-place g c =
    let is = index_is c.args.pairs.now c.place_from-place.result c.index-pairs-place.result c.place_from-place.ensures.bound in
    (c.place_from-place.ensures.bound, omega (arith, is, c.if-pairs-place.true))

pub returns-else-pairs-place : goal.returns-else-pairs-place
returns-else-pairs-place g c = λ k bound same.
    let place = c.place_from-place.result in
    let is = index_is c.args.pairs.now place c.index-pairs-place.result c.place_from-place.ensures.bound in
    let here : k ≡ place = omega (arith, c.place_from-place.ensures.within k bound same) in
    c.if-pairs-place.false (omega (arith, is, same, ap (index_at c.args.pairs.now) here))
