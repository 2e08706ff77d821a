use Rattle.audit_segments.proofs.Renaming.{may_renamed, between_renamed}
use Rattle.audit_segments.proofs.laws.names_do_not_matter.Goals as goal

pub returns-clause-may : goal.returns-clause-may
returns-clause-may c policy key_for p moment x i j arrives leaves m = may_renamed policy key_for p moment x i j arrives leaves m

pub returns-clause-change : goal.returns-clause-change
returns-clause-change c policy key_for p moment x i j arrives leaves = between_renamed policy key_for p moment x i j arrives leaves
