use Rattle.std.proofs.Common.{◌≤◌, ◌<◌, ◌-◌, length, arith}
use Rattle.audit_sights.specs.Pairs.{index_at}
use Rattle.audit_sights.proofs.Places.{index_is, within_above}
use Rattle.audit_sights.proofs.rising.start.Goals as goal

pub returns-then-pairs-low-clause-within : goal.returns-then-pairs-low-clause-within
returns-then-pairs-low-clause-within g c =
    let pairs = c.args.pairs.now in
    let low = length pairs - c.doubling.back in
    let inside : low < length pairs = omega (arith, c.requires.some, c.doubling.invariant) in
    let is = index_is pairs low c.index-pairs-low.result inside in
    let at_most : index_at pairs low ≤ c.args.index = omega (arith, is, c.if-pairs-low.true) in
    within_above pairs c.requires.rises c.args.index 0 (length pairs) low (λ k bound _. (omega arith, bound)) inside at_most
