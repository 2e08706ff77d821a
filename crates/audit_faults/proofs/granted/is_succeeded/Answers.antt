use Rattle.std.proofs.Common.{◌≡◌, ℕ, List, true, false, refl, sym, ◌∙◌, ap, subst, arith}
use Rattle.audit_model.specs.declared.sighting.Sighting.{Sighting}
use Rattle.audit_stun.specs.Parts.{parts_of}
use Rattle.audit_sightings.specs.Intake.{taken}
use Rattle.audit_faults.specs.Grants.{Succeeds}
use Rattle.audit_faults.specs.Leased.{answer_key, IsAnswerBy}
use Rattle.audit_faults.proofs.Keying.{none_at_end, none_down, none_of_key}
use Rattle.audit_faults.proofs.Leasing.{success_has_key}
use Rattle.audit_faults.proofs.granted.is_succeeded.Goals as goal

pub places-init : goal.places-init
places-init c = record {
  bound = c.span_of_key-span.ensures.past;
  none = none_at_end (taken c.args.intake.now) (λ (s : Sighting). Succeeds (taken c.args.intake.now).policy c.args.grant.now c.args.arrival.now c.args.request.now s) c.answer_key_to-key.result c.narrowly_before-first.result 18446744073709551615
      c.args.answers.places.now c.span_of_key-span.result.first c.span_of_key-span.result.past (c.span_of_key-span.ensures.has c.requires.answers.sorted);
}

pub places-preserved : goal.places-preserved
places-preserved c =
    let test = c.places-test.true in
    let bound = c.places.invariant.bound in
    record {
      bound = omega (arith, bound);
      none = none_down (taken c.args.intake.now) (λ (s : Sighting). Succeeds (taken c.args.intake.now).policy c.args.grant.now c.args.arrival.now c.args.request.now s) c.answer_key_to-key.result c.narrowly_before-first.result 18446744073709551615
          c.args.answers.places.now c.places.place _ (omega (arith, test)) bound c.places.invariant.none
          (λ s there p. let k : true ≡ false = sym (c.is_success_at.ensures.1 (s, there, p)) ∙ c.if-is_success_at.false in cc);
    }

pub returns-then-is_success_at : goal.returns-then-is_success_at
returns-then-is_success_at c = (λ _. let e = c.is_success_at.ensures.0 c.if-is_success_at.true in (e.0, (_, e.1), e.2), λ _. refl)

pub returns : goal.returns
returns c =
    let test = c.places-test.false in (
      λ h. absurd (let k : false ≡ true = h in cc),
      λ e.
          let may = subst (λ (k : ℕ). IsAnswerBy k e.0) (sym (c.answer_key_to-key.ensures ∙ ap (λ (p : List ℕ). answer_key (parts_of p).method c.args.grant.now.client (parts_of p).tid) c.as_slice.ensures))
          (success_has_key (taken c.args.intake.now) c.args.grant.now c.args.arrival.now c.args.arrival.now c.args.request.now e.0 c.requires.method e.2) in
          absurd (none_of_key (taken c.args.intake.now) (λ (s : Sighting). Succeeds (taken c.args.intake.now).policy c.args.grant.now c.args.arrival.now c.args.request.now s) c.answer_key_to-key.result c.narrowly_before-first.result 18446744073709551615
          c.args.answers.places.now IsAnswerBy c.args.answers.width c.span_of_key-span.result.first c.span_of_key-span.result.past c.places.place (c.span_of_key-span.ensures.has c.requires.answers.sorted)
          (omega (arith, test)) c.places.invariant.none c.requires.answers e.0 e.1 may (λ narrow. (c.narrowly_before-first.ensures e.0.lo e.0.hi e.2.after narrow.0, narrow.1)) e.2),
    )
