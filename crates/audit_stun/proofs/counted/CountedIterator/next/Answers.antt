use Rattle.std.proofs.Common.{◌≡◌, [], ◌∷◌, length, sym, ap, arith, ◌∙◌}
use Rattle.audit_stun.specs.Seen.{seen}
use Rattle.audit_stun.specs.Left.{counted_behind, counted_left}
use Rattle.audit_stun.specs.Parts.{attributes_in}
use Rattle.audit_stun.proofs.Counting.{nothing_left, left_with, left_past}
use Rattle.audit_stun.proofs.counted.CountedIterator.next.Goals as goal

pub returns-then-counts-clause-steps : goal.returns-then-counts-clause-steps
returns-then-counts-clause-steps c =
    let passed = c.loop-attribute.self.passed in
    sym c.loop-attribute.invariant ∙ ap (counted_behind passed) c.in-Some.ensures.rest ∙ left_with passed (seen c.in-Some.attribute) _ (sym c.counts.ensures ∙ c.if-counts.true)
    ∙ ap (λ p. seen c.in-Some.attribute ∷ counted_behind p (attributes_in c.in-Some.rest.now)) (sym c.with-self.ensures)

pub returns-then-counts-clause-goes : goal.returns-then-counts-clause-goes
returns-then-counts-clause-goes c = record { on = λ h. (tt, tt, omega (arith, ap length (returns-then-counts-clause-steps c))); keeps = tt; rests = λ h. tt }

pub loop-attribute-preserved : goal.loop-attribute-preserved
loop-attribute-preserved c =
    let passed = c.loop-attribute.self.passed in
    sym (left_past passed (seen c.in-Some.attribute) _ (sym c.counts.ensures ∙ c.if-counts.false)) ∙ sym (ap (counted_behind passed) c.in-Some.ensures.rest) ∙ c.loop-attribute.invariant

pub returns-clause-steps : goal.returns-clause-steps
returns-clause-steps c =
    let passed = c.loop-attribute.self.passed in
    let left : counted_left c.loop-attribute.self ≡ [] = ap (counted_behind passed) c.in_default.ensures.none ∙ nothing_left passed in
    (sym c.loop-attribute.invariant ∙ left, left)
