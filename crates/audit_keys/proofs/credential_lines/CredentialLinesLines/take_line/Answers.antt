use Rattle.std.proofs.Common.{◌≡◌, ℕ, ◌+◌, sym, ap, ◌∙◌, length}
use Rattle.std.specs.Prelude.{is_some}
use Rattle.audit_keys.specs.KeyFor.{key_for}
use Rattle.audit_keys.specs.Seen.{seen}
use Rattle.audit_keys.specs.CredLine.{read_credential}
use Rattle.audit_keys.proofs.CredTexts.{added}
use Rattle.audit_keys.proofs.credential_lines.CredentialLinesLines.take_line.Goals as goal

pub returns : goal.returns
returns c listed says =
    let number : c.args.self.now.count + 1 ≡ length listed + 1 = ap (λ (n : ℕ). n + 1) says.1 in
    let read = ap (λ (n : ℕ). read_credential n c.args.line.now) (sym number) ∙ c.in_ok-credential.ensures.exact in
    let more = added (key_for c.args.self.now.credentials) (key_for c.insert.new.self) listed (seen c.in_ok-credential.credential) (read_credential (length listed + 1) c.args.line.now) says.0
    read (ap is_some (sym c.lookup.ensures) ∙ sym c.is_some.ensures ∙ c.if-is_some.false) c.in_ok-insert.ensures.ok in
    (more.0, more.1, (more.2, number ∙ sym more.3))
