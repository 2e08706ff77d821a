use Rattle.std.proofs.Common.{◌≡◌, ℕ, true, false, sym, ◌∙◌, subst, arith}
use Rattle.audit_sightings.specs.Intake.{taken}
use Rattle.audit_faults.specs.Leased.{Answers, IsAnswerBy}
use Rattle.audit_faults.proofs.Keying.{none_at_end, none_down, none_of_key}
use Rattle.audit_faults.proofs.Leasing.{answer_has_key}
use Rattle.audit_faults.proofs.requests.is_answered.Goals as goal

pub places-init : goal.places-init
places-init c = record {
  bound = c.span_of_key-span.ensures.past;
  none = none_at_end (taken c.args.intake.now) (Answers c.args.client c.args.request.now) c.answer_key-key.result 0 18446744073709551615 c.args.answers.places.now
      c.span_of_key-span.result.first c.span_of_key-span.result.past (c.span_of_key-span.ensures.has c.requires.answers.sorted);
}

pub places-preserved : goal.places-preserved
places-preserved c =
    let test = c.places-test.true in
    let bound = c.places.invariant.bound in
    record {
      bound = omega (arith, bound);
      none = none_down (taken c.args.intake.now) (Answers c.args.client c.args.request.now) c.answer_key-key.result 0 18446744073709551615 c.args.answers.places.now c.places.place _ (omega (arith, test)) bound c.places.invariant.none
          (λ s there p. let k : true ≡ false = sym (c.is_answer_at.ensures.1 (s, there, p)) ∙ c.if-is_answer_at.false in cc);
    }

pub returns : goal.returns
returns c success captured answers =
    let test = c.places-test.false in
    let may = subst (λ (k : ℕ). IsAnswerBy k success) (sym c.answer_key-key.ensures) (answer_has_key c.args.client c.args.request.now success c.requires.method answers) in
    absurd (none_of_key (taken c.args.intake.now) (Answers c.args.client c.args.request.now) c.answer_key-key.result 0 18446744073709551615 c.args.answers.places.now
    IsAnswerBy c.args.answers.width c.span_of_key-span.result.first c.span_of_key-span.result.past c.places.place (c.span_of_key-span.ensures.has c.requires.answers.sorted)
    (omega (arith, test)) c.places.invariant.none c.requires.answers success captured may (λ narrow. (omega arith, narrow.1)) answers)
