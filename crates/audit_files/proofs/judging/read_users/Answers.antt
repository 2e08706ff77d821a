use Rattle.std.proofs.Common.{◌≡◌, ℕ, List, Option, Some, IfSome, subst, Bor}
use Rattle.audit_files.proofs.Fed.{if_ok}
use Rattle.audit_files.proofs.judging.read_users.Goals as goal

pub returns-in-Some-clause-says : goal.returns-in-Some-clause-says
returns-in-Some-clause-says g c = λ text some none.
    let held = subst (λ (o : Option (Bor (List ℕ))). IfSome o (λ name. g.S.Source.holds c.args.source.now name.now ≡ Some text)) c.in-Some.is some in
    if_ok c.read_text.result (λ users took. record { listed = took.0; read = took.1; keys = took.2 }) (c.read_text.ensures.says text held c.new.ensures)
