use Rattle.std.proofs.Common.{◌≡◌, ◌∙◌, ap, ap₂}
use Rattle.std.proofs.lemmas.Result.{IfOk-weaker}
use Rattle.clap.specs.Words.{App, app_of, with_subcommand}
use Rattle.prep_program.specs.Words.{cut, join, look, reassemble, translate, writing}
use Rattle.prep_program.proofs.command_line.commands.command.Goals as goal

pub returns : goal.returns
returns c =
    let one = with_subcommand writing join.top in
    let two = with_subcommand one reassemble.top in
    let three = with_subcommand two translate.top in
    let four = with_subcommand three look.top in
    let first : app_of c.in_ok-subcommand.field-0 ≡ one = c.in_ok-subcommand.ensures.shape c.in_ok-join_command.ensures.local ∙ ap₂ with_subcommand c.in_ok-writing.ensures (ap (λ (a : App). a.top) c.in_ok-join_command.ensures.app) in
    let second : app_of c.in_ok-subcommand-2.field-0 ≡ two = c.in_ok-subcommand-2.ensures.shape c.in_ok-reassemble_command.ensures.local ∙ ap₂ with_subcommand first (ap (λ (a : App). a.top) c.in_ok-reassemble_command.ensures.app) in
    let third : app_of c.in_ok-subcommand-3.field-0 ≡ three = c.in_ok-subcommand-3.ensures.shape c.in_ok-translate_command.ensures.local ∙ ap₂ with_subcommand second (ap (λ (a : App). a.top) c.in_ok-translate_command.ensures.app) in
    let fourth : app_of c.in_ok-subcommand-4.field-0 ≡ four = c.in_ok-subcommand-4.ensures.shape c.in_ok-look_command.ensures.local ∙ ap₂ with_subcommand third (ap (λ (a : App). a.top) c.in_ok-look_command.ensures.app) in
    IfOk-weaker c.subcommand-5.result _ _ (λ command added. added.shape c.in_ok-cut_command.ensures.local ∙ ap₂ with_subcommand fourth (ap (λ (a : App). a.top) c.in_ok-cut_command.ensures.app)) c.subcommand-5.ensures
