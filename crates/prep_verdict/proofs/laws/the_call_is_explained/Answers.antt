use Rattle.prep_verdict.proofs.Calling.{call_explained}
use Rattle.prep_verdict.proofs.laws.the_call_is_explained.Goals as goal

pub returns : goal.returns
returns c request policy users texts files made unprinted printed unsaid said status certificate before after as_many call audited =
    call_explained request policy users texts files made unprinted printed unsaid said status certificate before after as_many call audited
