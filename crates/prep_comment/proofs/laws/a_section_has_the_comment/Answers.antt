use Rattle.prep_comment.proofs.Commented.{commented}
use Rattle.prep_comment.proofs.laws.a_section_has_the_comment.Goals as goal

pub returns : goal.returns
returns c = commented
