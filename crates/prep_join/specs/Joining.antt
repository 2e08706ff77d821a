-- The state after captures that are done, and blocks of the present one.
use Rattle.std.specs.Prelude.{List, [], ◌∷◌, ◌++◌, ◌⊎◌}
use Rattle.prep_blocks.specs.declared.block.Block.{Block}
use Rattle.prep_join.specs.declared.ring.Ring.{Ring}
use Rattle.prep_join.specs.declared.fault.JoinFault.{JoinFault}
use Rattle.prep_join.specs.Shapes.{IsShaped, FitsShape, RefusesShape}
use Rattle.prep_join.specs.Stamped.{IsStamped, FitsStamps, RefusesStamps}

pub record IsAt (ring : Ring) (done : List (List Block)) (current : List Block) : Type 0 where
  pub shape : IsShaped ring.shape done current
  pub stamps : IsStamped ring.stamps done current

-- the block continues those before it
pub record Fits (done : List (List Block)) (current : List Block) (block : Block) : Type 0 where
  pub shape : FitsShape done current block
  pub stamps : FitsStamps done current block

-- each of the blocks continues those before it
abbrev pub AllFit : List (List Block) → List Block → List Block → Type 0
AllFit done current [] = Unit {0}
AllFit done current (block ∷ blocks) = Fits done current block × AllFit done (current ++ block ∷ []) blocks

-- each of the captures continues those before it
abbrev pub GoOn : List (List Block) → List (List Block) → Type 0
GoOn done [] = Unit {0}
GoOn done (current ∷ captures) = AllFit done [] current × GoOn (done ++ current ∷ []) captures

-- or it is refused for this reason
abbrev pub Refuses : JoinFault → List (List Block) → List Block → Block → Type 0
Refuses fault done current block = RefusesShape fault done current block ⊎ RefusesStamps fault done current block
