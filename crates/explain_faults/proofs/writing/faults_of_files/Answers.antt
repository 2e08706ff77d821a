use Rattle.std.proofs.lemmas.Result.{IfOk-weaker}
use Rattle.explain_faults.proofs.writing.faults_of_files.Goals as goal

pub returns : goal.returns
returns g c policy_text users_text texts policy users none captures =
    IfOk-weaker c.write_faults.result _ _ (λ status are_written. record { taken = _; key_for = _; read = c.in_ok-files.ensures.read policy_text users_text texts policy users none captures; are_written = are_written }) c.write_faults.ensures
