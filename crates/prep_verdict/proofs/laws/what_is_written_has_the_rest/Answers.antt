use Rattle.prep_verdict.proofs.Stays.{written_has}
use Rattle.prep_verdict.proofs.laws.what_is_written_has_the_rest.Goals as goal

pub returns : goal.returns
returns c plan capture packets whole is = written_has plan capture packets whole is
