use Rattle.std.proofs.Common.{◌≡◌, ◌∙◌, ap, ap₂, codes}
use Rattle.std.proofs.lemmas.Result.{IfOk-weaker}
use Rattle.clap.specs.Words.{App, app_of, with_subcommand}
use Rattle.audit_program.specs.Words.{finding, live, program}
use Rattle.audit_program.proofs.commands.command.Goals as goal

pub returns : goal.returns
returns c =
    let one = with_subcommand program (finding (codes "audit")).top in
    let two = with_subcommand one (finding (codes "find")).top in
    let three = with_subcommand two live.top in
    let first : app_of c.in_ok-subcommand.field-0 ≡ one = c.in_ok-subcommand.ensures.shape c.in_ok-finding_command.ensures.local ∙ ap₂ with_subcommand c.program.ensures.app (ap (λ (a : App). a.top) c.in_ok-finding_command.ensures.app) in
    let second : app_of c.in_ok-subcommand-2.field-0 ≡ two = c.in_ok-subcommand-2.ensures.shape c.in_ok-finding_command-2.ensures.local ∙ ap₂ with_subcommand first (ap (λ (a : App). a.top) c.in_ok-finding_command-2.ensures.app) in
    let third : app_of c.in_ok-subcommand-3.field-0 ≡ three = c.in_ok-subcommand-3.ensures.shape c.in_ok-live_command.ensures.local ∙ ap₂ with_subcommand second (ap (λ (a : App). a.top) c.in_ok-live_command.ensures.app) in
    IfOk-weaker c.subcommand-4.result _ _ (λ command added. added.shape c.in_ok-check_command.ensures.local ∙ ap₂ with_subcommand third (ap (λ (a : App). a.top) c.in_ok-check_command.ensures.app)) c.subcommand-4.ensures
