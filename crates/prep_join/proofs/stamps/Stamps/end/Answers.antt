use Rattle.std.proofs.Common.{◌∙◌, refl, sym, ap, List}
use Rattle.prep_blocks.specs.declared.block.Block.{Block}
use Rattle.prep_join.specs.Rings.{latest_on}
use Rattle.prep_join.proofs.Snoc.{all_of-one}
use Rattle.prep_join.proofs.stamps.Stamps.end.Goals as goal

pub returns : goal.returns
returns c = λ done current at. record {
  latest = λ iface. at.latest iface ∙ ap (λ (blocks : List Block). latest_on iface blocks) (sym (all_of-one done current));
  begun = λ iface. rw c.clear.ensures.empty refl;
}
