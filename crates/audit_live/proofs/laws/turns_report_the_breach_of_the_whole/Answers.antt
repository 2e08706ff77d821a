use Rattle.audit_live.proofs.Joining.{breach_of_whole}
use Rattle.audit_live.proofs.laws.turns_report_the_breach_of_the_whole.Goals as goal

pub returns : goal.returns
returns c taken key_for last old new extension found knows fits past takes_extension = breach_of_whole taken key_for last old new extension knows fits past found takes_extension
