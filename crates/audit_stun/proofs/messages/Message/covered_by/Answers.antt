use Rattle.std.proofs.Common.{◌≡◌, ◌+◌, ◌-◌, length, drop, sym, ap, ◌∙◌, Some, arith, List, ℕ, subst}
use Rattle.audit_stun.specs.Parts.{attributes_in, parts_of}
use Rattle.audit_stun.specs.Covered.{size_before, covered_of}
use Rattle.audit_stun.specs.Message.{IsMessage}
use Rattle.audit_stun.proofs.Ended.{covered_by_places}
use Rattle.audit_stun.proofs.Covered.{found_by, size_past, found_past, size_at, found_at, none_at_end, none_at_sha256, nothing_covered, covered_at}
use Rattle.audit_stun.proofs.messages.Message.covered_by.Goals as goal

pub returns-then-attribute-kind-clause-places : goal.returns-then-attribute-kind-clause-places
returns-then-attribute-kind-clause-places c =
    let b = c.self.inside.bytes.now in
    let kind = c.args.kind in
    let loop = c.loop-attribute.invariant in
    let sized = c.in-Some.ensures.size in
    let none_before : size_before kind (attributes_in c.loop-attribute.rest.now) ≡ 0 = ap (size_before kind) c.in-Some.ensures.rest ∙ size_at kind _ _ c.if-attribute-kind.true in
    let before : length b - length c.loop-attribute.rest.now ≡ 20 + size_before kind (attributes_in (drop 20 b)) = omega (arith, loop.before, none_before) in
    let found : found_by kind (attributes_in (drop 20 b)) ≡ Some c.in-Some.attribute.value.now = sym loop.value ∙ ap (found_by kind) c.in-Some.ensures.rest ∙ found_at kind _ _ c.if-attribute-kind.true in
    covered_at kind b _ _ (length c.loop-attribute.rest.now) (length c.in-Some.after.now) c.requires loop.within sized before found c.to_be_bytes.ensures ∙ ap (covered_of kind) c.self.view_is

pub loop-attribute-preserved : goal.loop-attribute-preserved
loop-attribute-preserved c =
    let kind = c.args.kind in
    let loop = c.loop-attribute.invariant in
    let sized = c.in-Some.ensures.size in
    let past = ap (size_before kind) c.in-Some.ensures.rest ∙ size_past kind _ _ c.if-attribute-kind.false in
    record {
      within = omega (arith, loop.within, sized);
      before = omega (arith, loop.before, loop.within, sized, past);
      value = sym (found_past kind _ _ c.if-attribute-kind.false c.if-attribute-eq-MESSAGE_INTEGRITY_SHA256.false) ∙ sym (ap (found_by kind) c.in-Some.ensures.rest) ∙ loop.value;
    }

pub returns-then-attribute-eq-MESSAGE_INTEGRITY_SHA256-clause-places : goal.returns-then-attribute-eq-MESSAGE_INTEGRITY_SHA256-clause-places
returns-then-attribute-eq-MESSAGE_INTEGRITY_SHA256-clause-places c =
    let kind = c.args.kind in
    nothing_covered kind _ c.requires (sym c.loop-attribute.invariant.value ∙ ap (found_by kind) c.in-Some.ensures.rest ∙ none_at_sha256 kind _ _ c.if-attribute-kind.false c.if-attribute-eq-MESSAGE_INTEGRITY_SHA256.true)
    ∙ ap (covered_of kind) c.self.view_is

pub returns-clause-places : goal.returns-clause-places
returns-clause-places c =
    let kind = c.args.kind in
    nothing_covered kind _ c.requires (sym c.loop-attribute.invariant.value ∙ ap (found_by kind) c.in_default.ensures.none ∙ none_at_end kind) ∙ ap (covered_of kind) c.self.view_is

pub returns-then-attribute-kind-clause-ended : goal.returns-then-attribute-kind-clause-ended
returns-then-attribute-kind-clause-ended c =
    let Whole : List ℕ → Type 0 = λ x. IsMessage x (parts_of x) in
    covered_by_places c.args.kind c.args.self.now _ _ _ c.requires (subst Whole c.self.view_is c.self.invariant) (returns-then-attribute-kind-clause-places c)
