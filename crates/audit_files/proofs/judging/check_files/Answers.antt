use Rattle.std.proofs.Common.{◌≡◌, ◌∙◌, ℕ, Bool, List, Option, Some, Ok, IfSome, ap, inl, inr, sym, subst}
use Rattle.std.specs.List.{AllZip}
use Rattle.audit_keys.specs.KeyFor.{key_for}
use Rattle.audit_model.specs.PolicyText.{policy_of}
use Rattle.audit_model.specs.declared.policy.Policy.{Policy}
use Rattle.audit_sightings.specs.Intake.{Taken, taken}
use Rattle.audit_files.specs.Captures.{AreTakenIn}
use Rattle.audit_files.specs.Ends.{EndsBoth}
use Rattle.audit_files.proofs.Refusing.{err_then}
use Rattle.audit_files.proofs.judging.check_files.Goals as goal

pub returns-clause-audited : goal.returns-clause-audited
returns-clause-audited g c = λ policy_text users_text certificate_text texts policy users none certificate captures.
    let Holds : Type 0 = List ℕ → Option (List ℕ) in
    let first = c.read_policy.ensures.kept in
    let second = c.read_users.ensures.kept ∙ first in
    let of_policy = c.in_ok-policy.ensures.says policy_text policy in
    let of_users = c.in_ok-users.ensures.says users_text (subst (λ (h : Holds). IfSome c.args.users (λ name. h name.now ≡ Some users_text)) (sym first) users) none in
    let both = c.in_ok-certificate.ensures in
    let of_certificate = both.certificate certificate_text (subst (λ (h : Holds). h c.args.certificate.now ≡ Some certificate_text) (sym second) certificate) in
    let intake = c.in_ok-certificate.intake in
    let same : intake.policy ≡ c.in_ok-policy.policy = both.policy ∙ ap (λ (t : Taken). t.policy) c.new-intake.ensures.empty in
    let of_captures : AreTakenIn texts (taken intake) =
    both.captures texts c.new-intake.ensures.stands (subst (λ (h : Holds). AllZip (λ name text. h name.now ≡ Some text) c.args.captures.now texts) (sym second) captures) in (
      c.in_ok-certificate.certificate,
      of_certificate,
      record {
        taken = taken intake;
        key_for = key_for c.in_ok-users.users;
        read = record {
          policy' = subst (λ (p : Policy). policy_of policy_text ≡ Ok p) (sym same) of_policy;
          users' = of_users;
          captures' = of_captures;
        };
        judged = c.in_ok-status.ensures.judged;
      },
    )

pub returns-in_err-certificate-clause-ended : goal.returns-in_err-certificate-clause-ended
returns-in_err-certificate-clause-ended g c = λ policy_text users_text certificate_text texts policy users none certificate captures.
    let Holds : Type 0 = List ℕ → Option (List ℕ) in
    let first = c.read_policy.ensures.kept in
    let second = c.read_users.ensures.kept ∙ first in
    let steady = c.read_users.ensures.steady ∙ c.read_policy.ensures.steady in
    let of_policy = c.in_ok-policy.ensures.says policy_text policy in
    let of_users = c.in_ok-users.ensures.says users_text (subst (λ (h : Holds). IfSome c.args.users (λ name. h name.now ≡ Some users_text)) (sym first) users) none in
    let same : c.new-intake.result.policy ≡ c.in_ok-policy.policy = ap (λ (t : Taken). t.policy) c.new-intake.ensures.empty in
    let name = c.args.certificate.now in
    let names = c.args.captures.now in
    let stop = c.in_err-certificate.field-0.0 in
    let ends = c.in_err-certificate.ensures.refused certificate_text texts (subst (λ (h : Holds). h name ≡ Some certificate_text) (sym second) certificate) c.new-intake.ensures.stands
    (subst (λ (h : Holds). AllZip (λ name text. h name.now ≡ Some text) names texts) (sym second) captures) in
    let here = subst (λ (p : Policy). EndsBoth (g.S.Source.may_fail c.args.source.now) name certificate_text names p texts stop) same
    (subst (λ (f : List ℕ → Bool). EndsBoth f name certificate_text names c.new-intake.result.policy texts stop) steady ends) in
    err_then c.from_residual-in_err-certificate.result c.from_residual-in_err-certificate.ensures.1
    (λ other is. inl (inr (c.in_ok-policy.policy, of_policy, inr (key_for c.in_ok-users.users, of_users, subst (λ s. EndsBoth (g.S.Source.may_fail c.args.source.now) name certificate_text names c.in_ok-policy.policy texts s) (sym is) here))))
