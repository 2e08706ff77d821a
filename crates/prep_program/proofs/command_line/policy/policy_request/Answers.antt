use Rattle.std.proofs.Common.{◌≡◌, ◌∙◌, None, Some, codes}
use Rattle.audit_model.specs.AddressText.{ip_of}
use Rattle.clap.specs.Words.{found_of, rows_of}
use Rattle.prep_program.specs.Requests.{all_read, values_of}
use Rattle.prep_program.proofs.Naming.{no_policy}
use Rattle.prep_program.proofs.command_line.policy.policy_request.Goals as goal

pub returns-in_default-2-clause-some : goal.returns-in_default-2-clause-some
returns-in_default-2-clause-some c =
    let rows = rows_of (found_of c.args.matches.now) in
    let none : None ≡ all_read ip_of (values_of (codes "listening-ip") rows) = rw c.in_default-2.is at c.in_ok-listening.ensures in
    c.usage.ensures.some (Some (codes "policy", rows)) (no_policy rows (λ file listening relaying is_file is_listening is_relaying.
    absurd (let bad : None ≡ Some listening = none ∙ is_listening in cc)))

pub returns-in_default-3-clause-some : goal.returns-in_default-3-clause-some
returns-in_default-3-clause-some c =
    let rows = rows_of (found_of c.args.matches.now) in
    let none : None ≡ all_read ip_of (values_of (codes "relay-ip") rows) = rw c.in_default-3.is at c.in_ok-relaying.ensures in
    c.usage-in_default-3.ensures.some (Some (codes "policy", rows)) (no_policy rows (λ file listening relaying is_file is_listening is_relaying.
    absurd (let bad : None ≡ Some relaying = none ∙ is_relaying in cc)))

pub returns-in_default-3-clause-none : goal.returns-in_default-3-clause-none
returns-in_default-3-clause-none c =
    let rows = rows_of (found_of c.args.matches.now) in
    let none : None ≡ all_read ip_of (values_of (codes "relay-ip") rows) = rw c.in_default-3.is at c.in_ok-relaying.ensures in
    c.usage-in_default-3.ensures.none (Some (codes "policy", rows)) (no_policy rows (λ file listening relaying is_file is_listening is_relaying.
    absurd (let bad : None ≡ Some relaying = none ∙ is_relaying in cc)))
