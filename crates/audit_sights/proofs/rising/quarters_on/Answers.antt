use Rattle.std.proofs.Common.{◌+◌, ◌*◌, refl, arith}
use Rattle.audit_sights.proofs.Quarters.{tells, last_quarter}
use Rattle.audit_sights.proofs.rising.quarters_on.Goals as goal

pub returns-clause-here : goal.returns-clause-here
returns-clause-here g c =
    let pairs = c.args.pairs.now in
    let low = c.args.low in
    let quarter = c.args.quarter in
    let first = tells pairs c.args.index (low + quarter) c.from-first.result c.index-pairs-low.result (omega (arith, c.requires.bound)) c.from-first.ensures in
    let second = tells pairs c.args.index (low + 2 * quarter) c.from-second.result c.index-pairs-low-2.result (omega (arith, c.requires.bound)) c.from-second.ensures in
    let third = tells pairs c.args.index (low + 3 * quarter) c.from-third.result c.index-pairs-low-3.result c.requires.bound c.from-third.ensures in
    (last_quarter pairs c.requires.rises c.args.index low quarter c.requires.some c.requires.bound c.from-first.result c.from-second.result c.from-third.result
    (c.from-first.result + c.from-second.result + c.from-third.result) refl first second third).0

pub returns-clause-next : goal.returns-clause-next
returns-clause-next g c =
    let pairs = c.args.pairs.now in
    let low = c.args.low in
    let quarter = c.args.quarter in
    let first = tells pairs c.args.index (low + quarter) c.from-first.result c.index-pairs-low.result (omega (arith, c.requires.bound)) c.from-first.ensures in
    let second = tells pairs c.args.index (low + 2 * quarter) c.from-second.result c.index-pairs-low-2.result (omega (arith, c.requires.bound)) c.from-second.ensures in
    let third = tells pairs c.args.index (low + 3 * quarter) c.from-third.result c.index-pairs-low-3.result c.requires.bound c.from-third.ensures in
    (last_quarter pairs c.requires.rises c.args.index low quarter c.requires.some c.requires.bound c.from-first.result c.from-second.result c.from-third.result
    (c.from-first.result + c.from-second.result + c.from-third.result) refl first second third).1
