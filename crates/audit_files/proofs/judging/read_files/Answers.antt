use Rattle.std.proofs.Common.{◌≡◌, ◌∙◌, ℕ, Bool, List, Option, Some, Ok, IfSome, ap, inr, sym, subst}
use Rattle.std.specs.List.{AllZip}
use Rattle.audit_model.specs.PolicyText.{policy_of}
use Rattle.audit_model.specs.declared.policy.Policy.{Policy}
use Rattle.audit_sightings.specs.Intake.{Taken}
use Rattle.audit_keys.specs.KeyFor.{key_for}
use Rattle.audit_files.specs.CaptureFaults.{EndsCaptures}
use Rattle.audit_files.proofs.Refusing.{err_then}
use Rattle.audit_files.proofs.judging.read_files.Goals as goal

pub returns-clause-read : goal.returns-clause-read
returns-clause-read g c = λ policy_text users_text texts policy users none captures.
    let Holds : Type 0 = List ℕ → Option (List ℕ) in
    let first = c.read_policy.ensures.kept in
    let second = c.read_users.ensures.kept ∙ first in
    let of_policy = c.in_ok-policy.ensures.says policy_text policy in
    let of_users = c.in_ok-users.ensures.says users_text (subst (λ (h : Holds). IfSome c.args.users (λ name. h name.now ≡ Some users_text)) (sym first) users) none in
    let intake = c.in_ok-intake.intake in
    let same : intake.policy ≡ c.in_ok-policy.policy = c.in_ok-intake.ensures.policy ∙ ap (λ (t : Taken). t.policy) c.new-intake.ensures.empty in
    record {
      policy' = subst (λ (p : Policy). policy_of policy_text ≡ Ok p) (sym same) of_policy;
      users' = of_users;
      captures' = c.in_ok-intake.ensures.taken texts c.new-intake.ensures.stands (subst (λ (h : Holds). AllZip (λ name text. h name.now ≡ Some text) c.args.captures.now texts) (sym second) captures);
    }

pub returns-in_err-intake-clause-refused : goal.returns-in_err-intake-clause-refused
returns-in_err-intake-clause-refused g c = λ policy_text users_text texts policy users none captures.
    let Holds : Type 0 = List ℕ → Option (List ℕ) in
    let first = c.read_policy.ensures.kept in
    let second = c.read_users.ensures.kept ∙ first in
    let steady = c.read_users.ensures.steady ∙ c.read_policy.ensures.steady in
    let of_policy = c.in_ok-policy.ensures.says policy_text policy in
    let of_users = c.in_ok-users.ensures.says users_text (subst (λ (h : Holds). IfSome c.args.users (λ name. h name.now ≡ Some users_text)) (sym first) users) none in
    let same : c.new-intake.result.policy ≡ c.in_ok-policy.policy = ap (λ (t : Taken). t.policy) c.new-intake.ensures.empty in
    let ends = c.in_err-intake.ensures.refused texts c.new-intake.ensures.stands (subst (λ (h : Holds). AllZip (λ name text. h name.now ≡ Some text) c.args.captures.now texts) (sym second) captures) in
    let here = subst (λ (p : Policy). EndsCaptures (g.S.Source.may_fail c.args.source.now) c.args.captures.now p texts c.in_err-intake.field-0.0) same
    (subst (λ (f : List ℕ → Bool). EndsCaptures f c.args.captures.now c.new-intake.result.policy texts c.in_err-intake.field-0.0) steady ends) in
    err_then c.from_residual-in_err-intake.result c.from_residual-in_err-intake.ensures.1
    (λ stop is. inr (c.in_ok-policy.policy, of_policy, inr (key_for c.in_ok-users.users, of_users, subst (λ s. EndsCaptures (g.S.Source.may_fail c.args.source.now) c.args.captures.now c.in_ok-policy.policy texts s) (sym is) here)))
