-- One event more of a lane.
use Rattle.std.proofs.Common.{◌≡◌, ℕ, zero, suc, ◌+◌, ◌<◌, List, [], ◌∷◌, length, Option, Some, add-one, refl, sym, subst, arith}
use Rattle.std.specs.Prelude.{slice_get, IfSome}
use Rattle.audit_lane.specs.After.{after}
use Rattle.audit_lane.specs.Content.{Content, Happening}
use Rattle.audit_lane.specs.Faults.{IsRight}
use Rattle.audit_lane.specs.Judged.{terms_of}
use Rattle.audit_lane.specs.Kept.{Kept}
use Rattle.audit_lane.specs.Seen.{SameKept}
use Rattle.explain_state.specs.Before.{IsBefore, Leaves}

there_is : (events : List Happening) (place : ℕ) → place < length events → (event : Happening) × (slice_get events place ≡ Some event)
there_is [] place below = absurd (omega arith)
there_is (event ∷ events) zero below = (event, refl)
there_is (event ∷ events) (suc place) below = there_is events place (omega arith)

-- what a step says of the event at its place is what the event leaves
pub leaves : (content : Content) (place : ℕ) (kept then : Kept) → place < length content.events →
    IfSome (slice_get content.events place) (IsRight (terms_of content) kept) →
    IfSome (slice_get content.events place) (λ event. SameKept then (after (terms_of content) place kept event)) →
    Leaves content place kept then
leaves content place kept then below right left =
    let found = there_is content.events place below in
    record {
      event = found.0;
      there = found.1;
      right = subst (λ (o : Option Happening). IfSome o (IsRight (terms_of content) kept)) found.1 right;
      left = subst (λ (o : Option Happening). IfSome o (λ event. SameKept then (after (terms_of content) place kept event))) found.1 left;
    }

pub one_more : (content : Content) (place : ℕ) (kept then : Kept) → IsBefore content place kept → Leaves content place kept then → IsBefore content (place + 1) then
one_more content place kept then before leaves = subst (λ (n : ℕ). IsBefore content n then) (sym (add-one place)) (kept, before, leaves)
