use Rattle.std.proofs.Common.{sym}
use Rattle.audit_keys.specs.KeyFor.{key_for}
use Rattle.audit_sightings.specs.Intake.{taken}
use Rattle.explain_program.proofs.as_json.explain_as_json.Goals as goal

pub returns : goal.returns
returns g c = λ policy_text users_text texts policy users none captures.
    let judged = c.in_ok-judged.judged in (
      judged.certificate,
      record {
        taken = taken judged.files.intake;
        key_for = key_for judged.files.users;
        read = (rw c.watch.ensures at c.in_ok-judged.ensures.read) policy_text users_text texts policy users none captures;
        verdict = judged.verdict;
        judges = c.in_ok-judged.ensures.by;
        written = c.in_ok-put_json.ensures;
        status_is = rw (sym c.expected_by-expected.ensures) c.in_ok-status.ensures;
      },
    )
