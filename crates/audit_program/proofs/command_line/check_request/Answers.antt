use Rattle.std.proofs.Common.{◌≡◌, ◌∙◌, IfSome, None, Some, ap, codes, option_map, refl, subst, sym}
use Rattle.clap.proofs.WalkLemmas.{first_value-rows}
use Rattle.clap.specs.Words.{first_of, found_of, rows_of}
use Rattle.audit_program.specs.Words.{AreNamed}
use Rattle.audit_program.proofs.Naming.{no_check}
use Rattle.audit_program.proofs.command_line.check_request.Goals as goal

pub returns-in_default-clause-none : goal.returns-in_default-clause-none
returns-in_default-clause-none c =
    let found = found_of c.args.matches.now in
    let lacks : first_of (codes "cert") (rows_of found) ≡ None = sym (first_value-rows found (codes "cert")) ∙ sym c.get_str.ensures ∙ ap (option_map (λ s. s.now)) c.in_default.is in
    no_check (rows_of found) (λ inputs certificate workers named is number. absurd (let bad : None ≡ Some certificate = sym lacks ∙ is in cc))

pub returns-in_default-workers_of-clause-none : goal.returns-in_default-workers_of-clause-none
returns-in_default-workers_of-clause-none c =
    no_check (rows_of (found_of c.args.matches.now)) (λ inputs certificate workers named is number. c.in_default-workers_of.ensures.none workers number)

pub returns-clause-named : goal.returns-clause-named
returns-clause-named c =
    let found = found_of c.args.matches.now in (
      rows_of found,
      refl,
      subst (λ inputs. IfSome inputs (AreNamed (rows_of found))) c.in-Some-2.is c.in_ok-inputs.ensures.named,
      sym (first_value-rows found (codes "cert")) ∙ sym c.get_str.ensures ∙ ap (option_map (λ s. s.now)) c.in-Some.is,
      c.in-Some-workers_of.ensures.some,
    )
