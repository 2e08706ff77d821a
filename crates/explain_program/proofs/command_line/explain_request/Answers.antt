use Rattle.std.proofs.Common.{◌≡◌, ◌∙◌, IfSome, ap, codes, option_map, refl, subst, sym}
use Rattle.clap.proofs.WalkLemmas.{first_value-rows}
use Rattle.clap.specs.Words.{found_of, rows_of}
use Rattle.explain_program.specs.Words.{AreNamed, HasFlag}
use Rattle.explain_program.proofs.command_line.explain_request.Goals as goal

pub returns-then-flag_of-clause-named : goal.returns-then-flag_of-clause-named
returns-then-flag_of-clause-named c = λ options.
    let found = found_of c.args.matches.now in
    let names = subst (λ inputs. IfSome inputs (λ named. AreNamed (rows_of found) named × (named.certificate ≡ c.get_str.result))) c.in-Some.is c.in_ok-inputs.ensures.named in (
      rows_of found,
      refl,
      names.0,
      sym (first_value-rows found (codes "cert")) ∙ sym c.get_str.ensures ∙ ap (option_map (λ s. s.now)) (sym names.1),
      options,
      subst (λ flag. HasFlag (codes "json") (rows_of found) flag) c.if-flag_of.true c.flag_of.ensures,
    )

pub returns-clause-named : goal.returns-clause-named
returns-clause-named c = λ options.
    let found = found_of c.args.matches.now in
    let names = subst (λ inputs. IfSome inputs (λ named. AreNamed (rows_of found) named × (named.certificate ≡ c.get_str.result))) c.in-Some.is c.in_ok-inputs.ensures.named in (
      rows_of found,
      refl,
      names.0,
      sym (first_value-rows found (codes "cert")) ∙ sym c.get_str.ensures ∙ ap (option_map (λ s. s.now)) (sym names.1),
      options,
      subst (λ flag. HasFlag (codes "json") (rows_of found) flag) c.if-flag_of.false c.flag_of.ensures,
    )
