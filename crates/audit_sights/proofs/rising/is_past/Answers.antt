use Rattle.std.proofs.Common.{◌<◌, ◌-◌, length, arith}
use Rattle.std.proofs.lemmas.Bool.Decides.{nat_tests}
use Rattle.audit_sights.specs.Pairs.{index_at}
use Rattle.audit_sights.proofs.Places.{index_is, past_last}
use Rattle.audit_sights.proofs.rising.is_past.Goals as goal

pub returns : goal.returns
returns g c =
    let pairs = c.args.pairs.now in
    let last = length pairs - 1 in
    let inside : last < length pairs = omega (arith, c.if-len-eq0.false) in
    let is = index_is pairs last c.index-pairs-len.result inside in
    (λ below. let past : index_at pairs last < c.args.index = grind (arith, nat_tests, below, is) in past_last pairs c.args.index last c.requires (omega arith) past, λ past. grind (arith, nat_tests, past last inside, is))
