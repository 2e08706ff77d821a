use Rattle.prep_verdict.proofs.Stays.{whole_has}
use Rattle.prep_verdict.proofs.laws.captures_have_these_packets.Goals as goal

pub returns : goal.returns
returns c text blocks whole = whole_has text blocks whole
