use Rattle.prep_translate.proofs.Renamed.{keeps_block}
use Rattle.prep_translate.proofs.laws.keeps_others.Goals as goal

pub returns : goal.returns
returns c = λ renaming block bytes none. keeps_block renaming block bytes none
