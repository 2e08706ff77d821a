use Rattle.std.proofs.Common.{◌≡◌, ℕ, Some, inl, inr, refl, sym, ◌∙◌, ap, subst, arith}
use Rattle.std.specs.List.{AllByRecursion}
use Rattle.std.proofs.lemmas.List.Elements.{recursion_from_All}
use Rattle.std.proofs.lemmas.Option.{none-some}
use Rattle.audit_model.specs.declared.sighting.SightId.{SightId}
use Rattle.audit_machine.proofs.Judging.{at_sight, left_or_later}
use Rattle.audit_machine.proofs.times.Times.least_end.Goals as goal

pub loop-came-init : goal.loop-came-init
loop-came-init c =
    let all = c.into_iter-came-iterator.ensures.into_iter_gives ∙ c.iter-came-items.ensures.rest in
    record {
      there = subst (λ l. AllByRecursion (λ (e : SightId × ℕ). at_sight c.args.self.now.moments.entries e.0 ≡ Some e.1) l) (sym all) (recursion_from_All (λ (e : SightId × ℕ). at_sight c.args.self.now.moments.entries e.0 ≡ Some e.1) _ c.iter-came-items.ensures.found);
      bound = omega arith;
      each = λ s came h. inl (ap (λ l. at_sight l s) all ∙ h);
      least = inl refl;
    }

pub loop-came-preserved-then-end-least : goal.loop-came-preserved-then-end-least
loop-came-preserved-then-end-least c =
    let old = c.loop-came.invariant in
    let there = rw c.in-Some.ensures.steps at old.there in
    record {
      there = there.1;
      bound = omega (arith, old.bound, c.if-end-least.true);
      each = λ s came h.
          left_or_later c.args.hold c.loop-came.least c.saturating_add-end.result c.in-Some.came.now (omega (arith, c.if-end-least.true)) (omega (arith, c.saturating_add-end.ensures)) _ _ s came (rw c.in-Some.ensures.steps at old.each s came h);
      least = inr (_, c.in-Some.came.now, there.0, sym c.saturating_add-end.ensures);
    }

pub loop-came-preserved : goal.loop-came-preserved
loop-came-preserved c =
    let old = c.loop-came.invariant in
    let there = rw c.in-Some.ensures.steps at old.there in
    record {
      there = there.1;
      bound = old.bound;
      each = λ s came h.
          left_or_later c.args.hold c.loop-came.least c.loop-came.least c.in-Some.came.now (omega arith) (omega (arith, c.if-end-least.false, c.saturating_add-end.ensures)) _ _ s came (rw c.in-Some.ensures.steps at old.each s came h);
      least = old.least;
    }

pub returns-clause-each : goal.returns-clause-each
returns-clause-each c s came h = elim (c.loop-came.invariant.each s came h) [
  | inl left ↦ absurd (none-some came (ap (λ l. at_sight l s) (sym c.in-None.ensures.steps.0) ∙ left))
  | inr later ↦ later
]
