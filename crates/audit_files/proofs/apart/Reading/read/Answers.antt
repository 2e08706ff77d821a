use Rattle.audit_files.proofs.SideBySide.{if_fault, if_no_fault}
use Rattle.audit_files.proofs.apart.Reading.read.Goals as goal

pub returns-clause-fed : goal.returns-clause-fed
returns-clause-fed g c = λ bytes files holds stands.
    if_no_fault _ c.take_capture.result c.err-self.result c.err-self.ensures.value (c.take_capture.ensures.fed bytes files holds stands)

pub returns-clause-refused : goal.returns-clause-refused
returns-clause-refused g c = λ bytes files holds stands.
    if_fault _ c.take_capture.result c.err-self.result c.err-self.ensures.value (c.take_capture.ensures.refused bytes files holds stands)
