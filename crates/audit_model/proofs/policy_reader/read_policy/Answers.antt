use Rattle.std.proofs.Common.{ℕ, List, [], subst, append-nil}
use Rattle.std.proofs.lemmas.Result.{err_from_is_err_and}
use Rattle.audit_text.specs.declared.line_fault.LineFault.{LineFault}
use Rattle.audit_text.specs.Reading.{UnlessMemory}
use Rattle.audit_text.proofs.Readings.{told_as_read}
use Rattle.audit_model.specs.declared.policy_fault.PolicyFaultKind.{PolicyFaultKind}
use Rattle.audit_model.specs.PolicyFault.{is_memory}
use Rattle.audit_model.specs.PolicyText.{policy_of}
use Rattle.audit_model.proofs.policy_reader.read_policy.Goals as goal

pub returns-in_err-feed-clause-reading : goal.returns-in_err-feed-clause-reading
returns-in_err-feed-clause-reading c =
    let p = err_from_is_err_and c.from_residual.result c.from_residual.ensures.1 in
    rw (p.1, p.2) (subst (λ (text : List ℕ). UnlessMemory (λ (f : LineFault PolicyFaultKind). is_memory f.kind) c.in_err-feed.field-0.0 (policy_of text)) (append-nil c.args.text.now) (c.in_err-feed.ensures.err [] c.new.ensures []))

pub returns-clause-reading : goal.returns-clause-reading
returns-clause-reading c =
    told_as_read (λ (f : LineFault PolicyFaultKind). is_memory f.kind) c.finish.result (policy_of c.args.text.now) (c.finish.ensures.reading c.args.text.now (c.in_ok-feed.ensures.ok [] c.new.ensures))

pub returns-clause-apart : goal.returns-clause-apart
returns-clause-apart c = c.finish.ensures.apart c.args.text.now (c.in_ok-feed.ensures.ok [] c.new.ensures)
