use Rattle.std.proofs.Common.{IfNone, IfOk, IfSome, subst, sym}
use Rattle.clap.specs.Words.{subcommand_rows_of}
use Rattle.prep_program.specs.Requests.{NamesNothing, Requests}
use Rattle.prep_program.proofs.Naming.{none_of_eight}
use Rattle.prep_program.proofs.command_line.request_of.Goals as goal

pub returns-in-Some-clause-none : goal.returns-in-Some-clause-none
returns-in-Some-clause-none c = subst (λ named. IfOk c.join_request.result (λ found. IfNone found (NamesNothing named))) (sym c.in-Some.ensures.some) c.join_request.ensures.none

pub returns-in-Some-arguments_of-clause-none : goal.returns-in-Some-arguments_of-clause-none
returns-in-Some-arguments_of-clause-none c = subst (λ named. IfOk c.policy_request.result (λ found. IfNone found (NamesNothing named))) (sym c.in-Some-arguments_of.ensures.some) c.policy_request.ensures.none

pub returns-in-Some-arguments_of-2-clause-none : goal.returns-in-Some-arguments_of-2-clause-none
returns-in-Some-arguments_of-2-clause-none c = subst (λ named. IfOk c.look_request.result (λ found. IfNone found (NamesNothing named))) (sym c.in-Some-arguments_of-2.ensures.some) c.look_request.ensures.none

pub returns-in-Some-arguments_of-3-clause-none : goal.returns-in-Some-arguments_of-3-clause-none
returns-in-Some-arguments_of-3-clause-none c = subst (λ named. IfOk c.cut_request.result (λ found. IfNone found (NamesNothing named))) (sym c.in-Some-arguments_of-3.ensures.some) c.cut_request.ensures.none

pub returns-in-Some-arguments_of-4-clause-some : goal.returns-in-Some-arguments_of-4-clause-some
returns-in-Some-arguments_of-4-clause-some c = subst (λ named. IfOk c.translate_request.result (λ found. IfSome found (Requests named))) (sym c.in-Some-arguments_of-4.ensures.some) c.translate_request.ensures.some

pub returns-in-Some-arguments_of-4-clause-none : goal.returns-in-Some-arguments_of-4-clause-none
returns-in-Some-arguments_of-4-clause-none c = subst (λ named. IfOk c.translate_request.result (λ found. IfNone found (NamesNothing named))) (sym c.in-Some-arguments_of-4.ensures.some) c.translate_request.ensures.none

pub returns-in-Some-arguments_of-5-clause-none : goal.returns-in-Some-arguments_of-5-clause-none
returns-in-Some-arguments_of-5-clause-none c = subst (λ named. IfOk c.users_request.result (λ found. IfNone found (NamesNothing named))) (sym c.in-Some-arguments_of-5.ensures.some) c.users_request.ensures.none

pub returns-in-Some-arguments_of-6-clause-some : goal.returns-in-Some-arguments_of-6-clause-some
returns-in-Some-arguments_of-6-clause-some c = subst (λ named. IfOk c.reassemble_request.result (λ found. IfSome found (Requests named))) (sym c.in-Some-arguments_of-6.ensures.some) c.reassemble_request.ensures.some

pub returns-in-Some-arguments_of-6-clause-none : goal.returns-in-Some-arguments_of-6-clause-none
returns-in-Some-arguments_of-6-clause-none c = subst (λ named. IfOk c.reassemble_request.result (λ found. IfNone found (NamesNothing named))) (sym c.in-Some-arguments_of-6.ensures.some) c.reassemble_request.ensures.none

pub returns-in-Some-arguments_of-7-clause-some : goal.returns-in-Some-arguments_of-7-clause-some
returns-in-Some-arguments_of-7-clause-some c = subst (λ named. IfOk c.ready_request.result (λ found. IfSome found (Requests named))) (sym c.in-Some-arguments_of-7.ensures.some) c.ready_request.ensures.some

pub returns-in-Some-arguments_of-7-clause-none : goal.returns-in-Some-arguments_of-7-clause-none
returns-in-Some-arguments_of-7-clause-none c = subst (λ named. IfOk c.ready_request.result (λ found. IfNone found (NamesNothing named))) (sym c.in-Some-arguments_of-7.ensures.some) c.ready_request.ensures.none

pub returns-clause-none : goal.returns-clause-none
returns-clause-none c = none_of_eight (subcommand_rows_of c.args.matches.now) c.in_default.ensures.none c.in_default-arguments_of.ensures.none c.in_default-arguments_of-2.ensures.none c.in_default-arguments_of-3.ensures.none c.in_default-arguments_of-4.ensures.none c.in_default-arguments_of-5.ensures.none c.in_default-arguments_of-6.ensures.none c.in_default-arguments_of-7.ensures.none
