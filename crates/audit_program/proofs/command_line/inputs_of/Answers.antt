use Rattle.std.proofs.Common.{◌≡◌, ◌∙◌, None, Some, codes, map, option_map, ap, sym}
use Rattle.clap.proofs.WalkLemmas.{first_value-rows, raw_values-rows}
use Rattle.clap.specs.Words.{all_of, first_of, found_of, rows_of}
use Rattle.audit_program.proofs.command_line.inputs_of.Goals as goal

pub returns-clause-named : goal.returns-clause-named
returns-clause-named c =
    let found = found_of c.args.matches.now in
    record {
      policy' = sym (first_value-rows found (codes "policy")) ∙ sym c.get_str.ensures ∙ ap (option_map (λ s. s.now)) c.in-Some.is;
      users' = sym (first_value-rows found (codes "creds")) ∙ sym c.get_str-2.ensures;
      captures' = sym (raw_values-rows found (codes "captures")) ∙ sym c.get_strs.ensures ∙ ap (option_map (λ s. map (λ v. v.now) s.now)) c.in-Some-get_strs.is
          ∙ ap (λ names. Some (map (λ v. v.now) names)) (sym c.in_ok-from_slice.ensures.items);
    }

pub returns-in_default-clause-none : goal.returns-in_default-clause-none
returns-in_default-clause-none c any named =
    let found = found_of c.args.matches.now in
    let lacks : first_of (codes "policy") (rows_of found) ≡ None = sym (first_value-rows found (codes "policy")) ∙ sym c.get_str.ensures ∙ ap (option_map (λ s. s.now)) c.in_default.is in
    absurd (let bad : None ≡ Some any.policy.now = sym lacks ∙ named.policy' in cc)

pub returns-in_default-get_strs-clause-none : goal.returns-in_default-get_strs-clause-none
returns-in_default-get_strs-clause-none c any named =
    let found = found_of c.args.matches.now in
    let lacks : all_of (codes "captures") (rows_of found) ≡ None = sym (raw_values-rows found (codes "captures")) ∙ sym c.get_strs.ensures ∙ ap (option_map (λ s. map (λ v. v.now) s.now)) c.in_default-get_strs.is in
    absurd (let bad : None ≡ Some (map (λ name. name.now) any.captures.items) = sym lacks ∙ named.captures' in cc)
