use Rattle.std.proofs.Common.{ℕ, [], List, None, Some, map, subst, true}
use Rattle.audit_finder.specs.Found.{IsFound}
use Rattle.audit_program.specs.Answered.{IsRun}
use Rattle.tests_host.specs.Held.{gave_of, held_among}
use Rattle.tests_host.proofs.answers.run_program.Goals as goal

pub returns : goal.returns
returns g c =
    let files = c.args.files.now in
    let source_after = c.run-status.new.source in
    let out = c.run-status.new.out in
    let err = c.run-status.new.err in
    let Claimed : List ℕ → List ℕ → Type 0 = λ before said_before. IsRun
    (map (λ word. word.now) c.args.words.now)
    (held_among files.policy.now files.credentials.now files.certificate.now files.capture.now files.second.now)
    (λ name. true)
    (gave_of source_after.gave.items source_after.gave_second.items)
    (λ capture. None)
    IsFound
    (record { before = Some before; after = Some out.bytes.items; said_before = Some said_before; said_after = Some err.bytes.items })
    None None None
    c.run-status.result in
    subst (λ before. Claimed before []) c.new.ensures.items (subst (λ said_before. Claimed c.new.result.items said_before) c.new-2.ensures.items c.run-status.ensures)
