use Rattle.std.proofs.lemmas.Result.{err_from_is_err_and}
use Rattle.prep_translate.proofs.Going.{undone}
use Rattle.prep_translate.proofs.translator.Translator.finish.Goals as goal

pub returns-in_err-finish-clause-err : goal.returns-in_err-finish-clause-err
returns-in_err-finish-clause-err c = λ renaming text blocks at.
    let p = err_from_is_err_and c.from_residual.result c.from_residual.ensures.1 in
    rw (p.1, p.2) (undone text blocks c.in_err-finish.field-0.0 (c.in_err-finish.ensures.ends text blocks at.splits))
