use Rattle.std.proofs.Common.{◌≡◌, ◌+◌, ◌*◌, ◌/◌, ◌%◌, ◌∷◌, get_or, drop, bit_and, ap, ◌∙◌, arith}
use Rattle.std.proofs.lemmas.Nat.{and_mask}
use Rattle.audit_stun.proofs.Cells.{first_four}
use Rattle.audit_stun.proofs.error.error_code.Goals as goal

pub returns-clause-found : goal.returns-clause-found
returns-clause-found c =
    let value = c.args.value.now in
    let third = get_or value 2 0 in
    let masked : bit_and third 7 ≡ third % 8 = and_mask third 3 in
    let split : third ≡ 8 * (third / 8) + bit_and third 7 = omega (arith, masked) in
    record {
      first = get_or value 0 0;
      second = get_or value 1 0;
      spare = third / 8;
      class = bit_and third 7;
      number = get_or value 3 0;
      reason = drop 4 value;
      spelled = first_four value c.in-len4-up.len_at_least ∙ ap (λ x. get_or value 0 0 ∷ get_or value 1 0 ∷ x ∷ get_or value 3 0 ∷ drop 4 value) split;
      three = omega arith;
      six = omega arith;
      two_digits = omega arith;
      joined = omega arith;
    }
