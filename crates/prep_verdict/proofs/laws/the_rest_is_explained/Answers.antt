use Rattle.prep_verdict.proofs.Explained.{explained}
use Rattle.prep_verdict.proofs.laws.the_rest_is_explained.Goals as goal

pub returns : goal.returns
returns c plan captures policy users certificate before after whole audited = explained plan captures policy users certificate before after whole audited
