use Rattle.audit_text.proofs.Standing.{taken_as}
use Rattle.audit_cert.specs.CertFault.{is_memory}
use Rattle.audit_cert.specs.DraftView.{Progress}
use Rattle.audit_cert.specs.CertText.{after}
use Rattle.audit_cert.proofs.lines.CertificateLinesLines.take_line.Goals as goal

pub returns : goal.returns
returns c before same = taken_as is_memory c.add.result (λ (progress : Progress). after progress c.args.line.now) c.args.self.now c.add.new.self before c.add.ensures same
