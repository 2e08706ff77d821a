use Rattle.std.proofs.Common.{◌≡◌, ◌∙◌, IfNone, IfSome, ap, inr, map, refl, subst, true}
use Rattle.clap.proofs.OnLiterals.{clap_on_literals}
use Rattle.clap.specs.Words.{App, fault_of, is_simple, is_simple_and_free, subcommand_of, subcommand_rows_of, HasKind}
use Rattle.audit_program.specs.Words.{Names, NamesNothing, turnaudit}
use Rattle.audit_program.proofs.Naming.{named_is_requested}
use Rattle.audit_program.proofs.command_line.read.Goals as goal

is_simple_turnaudit : is_simple turnaudit ≡ true
unfolding clap_on_literals
is_simple_turnaudit = refl

is_free_turnaudit : is_simple_and_free turnaudit ≡ true
unfolding clap_on_literals
is_free_turnaudit = refl

pub returns-in-Err : goal.returns-in-Err
returns-in-Err g c =
    let words = map g.N.AsStr.text c.args.words.now in
    let command = c.in_ok-command.ensures in
    c.refused.ensures (subcommand_of turnaudit words) (fault_of turnaudit words)
    (subst (λ (a : App). HasKind (fault_of a words) c.in-Err.error) command (c.in-Err.ensures.kinds (ap is_simple_and_free command ∙ is_free_turnaudit)))

pub returns-in-Some : goal.returns-in-Some
returns-in-Some g c =
    let words = map g.N.AsStr.text c.args.words.now in
    let command = c.in_ok-command.ensures in
    let matches = c.in-Ok.matches in
    let subcommand : subcommand_rows_of matches ≡ subcommand_of turnaudit words = (c.in-Ok.ensures.matches (ap is_simple command ∙ is_simple_turnaudit)).1 ∙ ap (λ (a : App). subcommand_of a words) command in
    let request = subst (λ request. IfSome request (Names (subcommand_rows_of matches))) c.in-Some.is c.in_ok-request.ensures.named in
    named_is_requested (subcommand_of turnaudit words) (fault_of turnaudit words) c.in-Some.request (subst (λ subcommand. Names subcommand c.in-Some.request) subcommand request)

pub returns : goal.returns
returns g c =
    let words = map g.N.AsStr.text c.args.words.now in
    let command = c.in_ok-command.ensures in
    let matches = c.in-Ok.matches in
    let subcommand : subcommand_rows_of matches ≡ subcommand_of turnaudit words = (c.in-Ok.ensures.matches (ap is_simple command ∙ is_simple_turnaudit)).1 ∙ ap (λ (a : App). subcommand_of a words) command in
    let none = subst (λ request. IfNone request (NamesNothing (subcommand_rows_of matches))) c.in-None.is c.in_ok-request.ensures.none in
    inr (subst (λ subcommand. NamesNothing subcommand) subcommand none)
