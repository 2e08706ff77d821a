use Rattle.std.proofs.Common.{◌≡◌, ◌∙◌, IfSome, None, Some, ap, codes, option_map, refl, subst, sym}
use Rattle.clap.proofs.WalkLemmas.{first_value-rows}
use Rattle.clap.specs.Words.{first_of, found_of, rows_of}
use Rattle.explain_program.specs.Words.{AreNamed}
use Rattle.explain_program.proofs.Naming.{no_evidence}
use Rattle.explain_program.proofs.command_line.evidence_request.Goals as goal

pub returns-in_default-clause-none : goal.returns-in_default-clause-none
returns-in_default-clause-none c =
    let found = found_of c.args.matches.now in
    let lacks : first_of (codes "output") (rows_of found) ≡ None = sym (first_value-rows found (codes "output")) ∙ sym c.get_str.ensures ∙ ap (option_map (λ s. s.now)) c.in_default.is in
    no_evidence (rows_of found) (λ file is. absurd (let bad : None ≡ Some file = sym lacks ∙ is in cc))

pub returns-clause-named : goal.returns-clause-named
returns-clause-named c =
    let found = found_of c.args.matches.now in
    let names = subst (λ inputs. IfSome inputs (λ named. AreNamed (rows_of found) named × (named.certificate ≡ c.get_str-2.result))) c.in-Some-2.is c.in_ok-inputs.ensures.named in (
      rows_of found,
      refl,
      names.0,
      sym (first_value-rows found (codes "cert")) ∙ sym c.get_str-2.ensures ∙ ap (option_map (λ s. s.now)) (sym names.1),
      sym (first_value-rows found (codes "output")) ∙ sym c.get_str.ensures ∙ ap (option_map (λ s. s.now)) c.in-Some.is,
      sym (first_value-rows found (codes "excluded")) ∙ sym c.get_str-excluded.ensures,
    )
