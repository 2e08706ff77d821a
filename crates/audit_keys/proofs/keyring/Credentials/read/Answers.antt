use Rattle.std.proofs.Common.{ℕ, List, [], subst, append-nil}
use Rattle.std.proofs.lemmas.Result.{err_from_is_err_and, MatchResult-weaker}
use Rattle.audit_text.specs.declared.line_fault.LineFault.{LineFault}
use Rattle.audit_text.specs.Reading.{UnlessMemory}
use Rattle.audit_keys.specs.declared.cred_fault.CredFaultKind.{CredFaultKind}
use Rattle.audit_keys.specs.CredFault.{is_memory}
use Rattle.audit_keys.specs.CredText.{credentials_of}
use Rattle.audit_keys.proofs.keyring.Credentials.read.Goals as goal

pub returns-in_err-feed : goal.returns-in_err-feed
returns-in_err-feed c =
    let p = err_from_is_err_and c.from_residual.result c.from_residual.ensures.1 in
    rw (p.1, p.2) (subst (λ (text : List ℕ). UnlessMemory (λ (f : LineFault CredFaultKind). is_memory f.kind) c.in_err-feed.field-0.0 (credentials_of text)) (append-nil c.args.text.now) (c.in_err-feed.ensures.err [] c.new.ensures []))

pub returns : goal.returns
returns c = MatchResult-weaker c.finish.result (c.finish.ensures c.args.text.now (c.in_ok-feed.ensures.ok [] c.new.ensures)) (λ users took. took) (λ fault e _. e)
