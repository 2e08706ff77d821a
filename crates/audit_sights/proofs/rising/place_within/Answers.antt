use Rattle.std.proofs.Common.{◌≤◌, ◌<◌, ◌+◌, ◌/◌, length, arith}
use Rattle.audit_sights.specs.Pairs.{index_at}
use Rattle.audit_sights.proofs.Places.{index_is, within_above, within_below}
use Rattle.audit_sights.proofs.rising.place_within.Goals.{then-pairs-middle, else-pairs-middle}
use Rattle.audit_sights.proofs.rising.place_within.Goals as goal

pub halving-preserved : goal.halving-preserved
halving-preserved g c =
    let pairs = c.args.pairs.now in
    let low = c.halving.low in
    let size = c.halving.size in
    let middle = low + size / 2 in
    let inside : middle < length pairs = omega (arith, c.halving.invariant.bound, c.halving-test.true) in
    let is = index_is pairs middle c.index-pairs-middle.result inside in
    elim c.if-pairs-middle.branch [
      | then-pairs-middle w ↦
          let at_most : index_at pairs middle ≤ c.args.index = omega (arith, is, w.if-pairs-middle.true) in
          let within = within_above pairs c.requires.rises c.args.index low (low + size) middle c.halving.invariant.within inside at_most in
          record {
            some = omega (arith, c.halving-test.true);
            bound = omega (arith, w.low-is, c.halving.invariant.bound);
            within = λ k bound same. let h = within k bound same in (omega (arith, w.low-is, h.0), omega (arith, w.low-is, h.1));
          }
      | else-pairs-middle w ↦
          let more : c.args.index < index_at pairs middle = omega (arith, is, w.if-pairs-middle.false) in
          let within = within_below pairs c.requires.rises c.args.index low (low + size) middle c.halving.invariant.within inside more in
          record {
            some = omega (arith, c.halving-test.true);
            bound = omega (arith, w.low-is, c.halving.invariant.bound);
            within = λ k bound same. let h = within k bound same in (omega (arith, w.low-is, h.0), omega (arith, w.low-is, h.1));
          }
    ]
