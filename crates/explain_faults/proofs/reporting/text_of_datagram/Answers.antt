use Rattle.std.proofs.Common.{◌≡◌, ◌++◌, ℕ, List, string_bytes, decimal, codes, ap, ◌∙◌}
use Rattle.std.proofs.lemmas.Result.{IfOk-weaker}
use Rattle.audit_model.specs.Addr.{addr_text}
use Rattle.explain_faults.proofs.reporting.text_of_datagram.Goals as goal

pub returns : goal.returns
returns c =
    let s = c.args.sighting.now in
    let text_at : ℕ → List ℕ = λ n. addr_text s.from ++ (codes " to " ++ (addr_text s.to ++ (codes " " ++ (decimal n ++ codes " bytes\n")))) in
    IfOk-weaker c.format.result _ _
    (λ text same. let written : string_bytes text ≡ text_at c.len-length.result = same in written ∙ ap text_at c.len-length.ensures)
    c.format.ensures.ok
