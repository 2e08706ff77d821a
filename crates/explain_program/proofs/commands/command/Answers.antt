use Rattle.std.proofs.Common.{◌≡◌, ◌∙◌, ap, ap₂}
use Rattle.std.proofs.lemmas.Result.{IfOk-weaker}
use Rattle.clap.specs.Words.{App, app_of, with_subcommand}
use Rattle.explain_program.specs.Words.{client, faults, lanes, program, verdict}
use Rattle.explain_program.proofs.commands.command.Goals as goal

pub returns : goal.returns
returns c =
    let one = with_subcommand program verdict.top in
    let two = with_subcommand one lanes.top in
    let three = with_subcommand two client.top in
    let four = with_subcommand three faults.top in
    let first : app_of c.in_ok-subcommand.field-0 ≡ one = c.in_ok-subcommand.ensures.shape c.in_ok-verdict_command.ensures.local ∙ ap₂ with_subcommand c.program.ensures.app (ap (λ (a : App). a.top) c.in_ok-verdict_command.ensures.app) in
    let second : app_of c.in_ok-subcommand-2.field-0 ≡ two = c.in_ok-subcommand-2.ensures.shape c.in_ok-lanes_command.ensures.local ∙ ap₂ with_subcommand first (ap (λ (a : App). a.top) c.in_ok-lanes_command.ensures.app) in
    let third : app_of c.in_ok-subcommand-3.field-0 ≡ three = c.in_ok-subcommand-3.ensures.shape c.in_ok-client_command.ensures.local ∙ ap₂ with_subcommand second (ap (λ (a : App). a.top) c.in_ok-client_command.ensures.app) in
    let fourth : app_of c.in_ok-subcommand-4.field-0 ≡ four = c.in_ok-subcommand-4.ensures.shape c.in_ok-faults_command.ensures.local ∙ ap₂ with_subcommand third (ap (λ (a : App). a.top) c.in_ok-faults_command.ensures.app) in
    IfOk-weaker c.subcommand-5.result _ _ (λ command added. added.shape c.in_ok-evidence_command.ensures.local ∙ ap₂ with_subcommand fourth (ap (λ (a : App). a.top) c.in_ok-evidence_command.ensures.app)) c.subcommand-5.ensures
