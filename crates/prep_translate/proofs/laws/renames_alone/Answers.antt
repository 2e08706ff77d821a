use Rattle.prep_translate.proofs.Renamed.{renames_block}
use Rattle.prep_translate.proofs.laws.renames_alone.Goals as goal

pub returns : goal.returns
returns c = λ renaming block head from to payload is bytes holds fits_from fits_to. renames_block renaming block head from to payload is bytes holds fits_from fits_to
