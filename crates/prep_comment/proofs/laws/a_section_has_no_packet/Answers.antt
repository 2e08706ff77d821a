use Rattle.prep_comment.proofs.Reading.{section_read}
use Rattle.prep_comment.proofs.laws.a_section_has_no_packet.Goals as goal

pub returns : goal.returns
returns c = section_read
