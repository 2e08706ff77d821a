use Rattle.std.proofs.Common.{◌≡◌, ◌+◌, ◌++◌, ◌∙◌, ℕ, List, drop, get_or, sym, ap, append_assoc, string_bytes}
use Rattle.std.specs.List.{flat_map}
use Rattle.std.proofs.lemmas.List.{drop_more}
use Rattle.audit_model.specs.declared.address.Addr.{Addr}
use Rattle.prep_look.specs.PolicyLines.{silent_line}
use Rattle.prep_look.proofs.answering.push_all_silent.Goals as goal

pub loop-addr-preserved : goal.loop-addr-preserved
loop-addr-preserved c =
    let f : Addr → List ℕ = silent_line c.args.answers.now.entries in
    let listen : List Addr = c.args.listen.now in
    let i : ℕ = c.loop-addr.addr-index in
    let none : Addr = record { ip = 0; port = 0 } in
    let before : List ℕ = string_bytes c.loop-addr.text in
    let after : List ℕ = flat_map f (drop (i + 1) listen) in
    ap (λ (l : List ℕ). l ++ after) c.in_ok-push_silent.ensures ∙ append_assoc before (f (get_or listen i none)) after
    ∙ ap (λ (l : List ℕ). before ++ l) (sym (ap (flat_map f) (drop_more listen i none c.loop-addr-test.true))) ∙ c.loop-addr.invariant
