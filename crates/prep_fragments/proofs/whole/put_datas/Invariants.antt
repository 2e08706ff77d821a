use Rattle.std.proofs.Common.{◌≡◌, ◌++◌, take}
use Rattle.prep_fragments.specs.Wholes.{datas_of}
use Rattle.prep_fragments.proofs.whole.put_datas.Given as goal

abbrev pub invariant-loop-block : goal.invariant-loop-block
invariant-loop-block l = l.out.items ≡ l.fn.out.items ++ datas_of (take l.block-index l.blocks)
