-- The first broken rule of checks in the order of their ranks is the least breach.
use Rattle.std.proofs.Common.{◌≡◌, Bool, true, false, cond, List, [], ◌∷◌, Option, Some, refl, sym, ap, ◌∙◌, inl, inr}
use Rattle.std.proofs.lemmas.Bool.{true≢false}
use Rattle.std.specs.Ordering.{is_gt, nat_cmp, ordering_then}
use Rattle.std.specs.Cmp.{tied_itself, nat_cmp_total}
use Rattle.std.specs.declared.cmp.Ordering.{Ordering}
use Rattle.std.specs.declared.cmp.Ordering.TheVariants.{Less, Equal}
use Rattle.audit_model.specs.declared.event.At.{At}
use Rattle.audit_model.specs.declared.event.Event.{Event}
use Rattle.audit_model.specs.declared.event.Event.TheVariants.{In, Act, Out}
use Rattle.audit_model.specs.declared.event.Key.{Key}
use Rattle.audit_model.specs.declared.rule.Rule.{Rule}
use Rattle.audit_model.specs.declared.sighting.Side.{Side}
use Rattle.audit_model.specs.declared.sighting.Side.TheVariants.{Arrives, Leaves}
use Rattle.audit_model.specs.declared.sighting.SightId.{SightId}
use Rattle.audit_model.specs.declared.verdict.Breach.{Breach}
use Rattle.audit_model.specs.Breach.{key_cmp, sight_cmp, breach_cmp}
use Rattle.audit_model.specs.Least.{IsLeast}
use Rattle.audit_model.specs.Rule.{rule_cmp}
use Rattle.audit_model.proofs.Orders.{key_total, breach_total}
use Rattle.audit_model.proofs.LeastBreach.{least_same}
use Rattle.audit_sightings.specs.Intake.{Taken}
use Rattle.audit_model.specs.declared.pair.Pair.{Pair}
use Rattle.audit_placement.specs.Checks.{Check, IsOneOf, breach_at, first_broken, breach_of, event_checks, placing_checks}

-- each of the checks ranks behind the rule
abbrev pub IsBefore : Rule → List Check → Type 0
IsBefore rule [] = Unit {0}
IsBefore rule (check ∷ checks) = (rule_cmp rule check.rule ≡ Less) × IsBefore rule checks

abbrev pub Ascend : List Check → Type 0
Ascend [] = Unit {0}
Ascend (check ∷ checks) = IsBefore check.rule checks × Ascend checks

by_rule : (key lane rules places sights : Ordering) → key ≡ Equal → lane ≡ Equal → rules ≡ Less
    → is_gt (ordering_then (ordering_then (ordering_then (ordering_then key lane) rules) places) sights) ≡ false
by_rule key lane rules places sights k l r = rw (k, l, r) refl

before_shown : (at : At) (rule : Rule) (sight : SightId) (checks : List Check) → IsBefore rule checks
    → (b : Breach) → IsOneOf checks at b → is_gt (breach_cmp (breach_at at rule sight) b) ≡ false
before_shown at rule sight [] before b shown = absurd shown
before_shown at rule sight (check ∷ checks) before b (inl is) =
    rw is.1 (by_rule (key_cmp at.key at.key) (nat_cmp at.lane at.lane) (rule_cmp rule check.rule) (nat_cmp at.place at.place) (sight_cmp sight check.sight)
    (tied_itself key_total at.key) (tied_itself nat_cmp_total at.lane) before.0)
before_shown at rule sight (check ∷ checks) before b (inr shown) = before_shown at rule sight checks before.1 b shown

pub same_breach : (one other : Breach) → other ≡ one → is_gt (breach_cmp one other) ≡ false
same_breach one other same = rw same (ap is_gt (tied_itself breach_total one))

-- by whether the first check is broken
by_first : (check : Check) (checks : List Check) (at : At) → IsBefore check.rule checks → IsLeast (IsOneOf checks at) (breach_of at (first_broken checks))
    → (broken : Bool) → check.broken ≡ broken
    → IsLeast (IsOneOf (check ∷ checks) at) (breach_of at (cond broken (Some (check.rule, check.sight)) (first_broken checks)))
by_first check checks at before rest true is = (
  inl (is, refl),
  λ b shown. elim shown [
    | inl h ↦ same_breach (breach_at at check.rule check.sight) b h.1
    | inr h ↦ before_shown at check.rule check.sight checks before b h
  ],
)
by_first check checks at before rest false is =
    least_same (IsOneOf checks at) (IsOneOf (check ∷ checks) at) (λ b shown. inr shown)
    (λ b shown. elim shown [ inl h ↦ absurd (true≢false (sym h.0 ∙ is)) | inr h ↦ h ])
    (breach_of at (first_broken checks)) rest

pub first_least : (checks : List Check) (at : At) → Ascend checks → IsLeast (IsOneOf checks at) (breach_of at (first_broken checks))
first_least [] at ascend = λ b shown. shown
first_least (check ∷ checks) at ascend = by_first check checks at ascend.0 (first_least checks at ascend.1) check.broken refl

placing_ascending : (taken : Taken) (placed : Bool) (pair : Option Pair) (last : Option Key) (side : Side) (sight : SightId) (key : Key)
    → Ascend (placing_checks taken placed pair last side sight key)
placing_ascending taken placed pair last side sight key =
    ((refl, (refl, (refl, (refl, (refl, tt))))), ((refl, (refl, (refl, (refl, tt)))), ((refl, (refl, (refl, tt))), ((refl, (refl, tt)), ((refl, tt), (tt, tt))))))

pub ascending : (taken : Taken) (placed : Bool) (pair : Option Pair) (last : Option Key) (event : Event) → Ascend (event_checks taken placed pair last event)
ascending taken placed pair last (In sight key) = placing_ascending taken placed pair last Arrives sight key
ascending taken placed pair last (Act arrival departure key) = ((refl, (refl, tt)), ((refl, tt), (tt, tt)))
ascending taken placed pair last (Out sight key) = placing_ascending taken placed pair last Leaves sight key
