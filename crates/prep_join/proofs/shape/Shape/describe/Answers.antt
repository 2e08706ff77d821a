use Rattle.std.proofs.Common.{◌≡◌, ◌∙◌, refl, ap, List, ℕ, ◌++◌, None, Some, drop, length, ◌-◌, arith}
use Rattle.std.proofs.lemmas.Bool.Decides.{Decides-eqb}
use Rattle.std.proofs.lemmas.Slice.Eq.{strip_prefix_is}
use Rattle.std.proofs.lemmas.Grind.{common_steps}
use Rattle.prep_join.proofs.ShapesGrown.{first_interface, later_interface, looked_at, not_next}
use Rattle.prep_join.proofs.shape.Shape.describe.Goals as goal

pub returns-then-self-2-clause-ok : goal.returns-then-self-2-clause-ok
returns-then-self-2-clause-ok c = λ done current at.
    first_interface c.args.self.now _ done current c.args.block.now at c.requires c.if-self-2.true refl refl
    (c.in_ok-extend_from_slice.ensures.items ∙ ap (λ (t : List ℕ). c.args.self.now.interfaces.items ++ t) c.as_slice-bytes.ensures) (grind (arith, common_steps)) refl refl

pub returns-in_default-clause-err : goal.returns-in_default-clause-err
returns-in_default-clause-err c = λ done current at.
    let place = looked_at c.args.self.now done current at in
    let whole : c.min-from.result ≡ c.args.self.now.shown = grind (arith, common_steps) in
    let behind : c.split_at.result.1.now ≡ drop c.args.self.now.shown c.args.self.now.interfaces.items = c.split_at.ensures.back ∙ (rw (whole, c.deref.ensures.value) refl) in
    let other = strip_prefix_is Decides-eqb c.split_at.result.1.now c.as_slice-bytes.result.now None c.in_default.ensures.cases in
    (c.requires, not_next c.args.self.now done current c.args.block.now at (rw (behind, c.as_slice-bytes.ensures) at other))

pub returns-clause-ok : goal.returns-clause-ok
returns-clause-ok c = λ done current at.
    let place = looked_at c.args.self.now done current at in
    let whole : c.min-from.result ≡ c.args.self.now.shown = grind (arith, common_steps) in
    let behind : c.split_at.result.1.now ≡ drop c.args.self.now.shown c.args.self.now.interfaces.items = c.split_at.ensures.back ∙ (rw (whole, c.deref.ensures.value) refl) in
    let next = strip_prefix_is Decides-eqb c.split_at.result.1.now c.as_slice-bytes.result.now (Some c.in-Some.rest) c.in-Some.ensures.cases in
    let left : c.len-2.result - length c.in-Some.rest.now ≡ length c.args.self.now.interfaces.items - length c.in-Some.rest.now = grind (arith, common_steps) in
    later_interface c.args.self.now _ done current c.args.block.now c.in-Some.rest.now at c.requires c.if-self-2.false (rw (behind, c.as_slice-bytes.ensures) at next) refl refl refl left refl refl
