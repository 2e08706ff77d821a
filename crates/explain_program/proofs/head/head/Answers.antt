use Rattle.std.proofs.Common.{◌≡◌, IfOk, subst, sym, string_bytes}
use Rattle.audit_model.specs.declared.verdict.Verdict.{Verdict}
use Rattle.explain_program.specs.Explained.{head_text}
use Rattle.explain_program.proofs.head.head.Goals as goal

pub returns-in-Conforming : goal.returns-in-Conforming
returns-in-Conforming c = subst (λ (v : Verdict). IfOk c.format.result (λ text. string_bytes text ≡ head_text v)) (sym c.in-Conforming.is) c.format.ensures.ok
