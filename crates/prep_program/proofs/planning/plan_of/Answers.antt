-- What was read goes into the plan.
use Rattle.std.proofs.Common.{◌≡◌, ℕ, List, All, Option, Some, Ok, sym, ap, subst, ◌∙◌, Bor}
use Rattle.std.specs.List.{AllZip}
use Rattle.audit_model.specs.PolicyText.{policy_of}
use Rattle.prep_program.specs.declared.hashing.Hashed.{Hashed}
use Rattle.prep_program.specs.Hashings.{IsHashed}
use Rattle.prep_program.proofs.planning.plan_of.Goals as goal

pub returns-clause-planned : goal.returns-clause-planned
returns-clause-planned g c = λ policy captures holds texts.
    let whole : c.deref.result.now ≡ policy = c.deref.ensures.value ∙ c.in_ok-text.ensures.whole policy holds in
    let read : policy_of policy ≡ Ok c.in_ok-policy.policy = ap policy_of (sym whole) ∙ c.in_ok-policy.ensures.reading in
    let later = subst (λ (h : List ℕ → Option (List ℕ)). AllZip (λ (name : Bor (List ℕ)) (text : List ℕ). h name.now ≡ Some text) c.args.request.now.captures.items captures)
    (sym c.read_policy_text.ensures.kept) texts in
    let by = c.in_ok-planned.ensures.planned captures later in
    record { policy_is = read ∙ ap Ok (sym by.0); stated_is = by.1; noted = by.2 }

pub returns-clause-hashes : goal.returns-clause-hashes
returns-clause-hashes g c =
    subst (λ (h : List ℕ → Option (List ℕ)). All (λ (one : Hashed). IsHashed h one) c.in_ok-planned.planned.hashed.items) c.read_policy_text.ensures.kept c.in_ok-planned.ensures.hashes
