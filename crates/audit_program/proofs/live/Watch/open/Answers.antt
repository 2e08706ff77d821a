use Rattle.std.proofs.Common.{◌≡◌, ◌⊎◌, ◌<◌, ◌∙◌, ℕ, List, Option, Some, IfSome, length, ap, inr, sym, subst}
use Rattle.audit_live.specs.Audit.{Audit}
use Rattle.audit_sightings.specs.Intake.{Taken}
use Rattle.audit_files.proofs.Refusing.{err_then}
use Rattle.audit_files.specs.declared.stop.Stop.TheVariants.{Memory}
use Rattle.audit_files.specs.Stops.{EndsByIntake}
use Rattle.audit_keys.specs.KeyFor.{key_for}
use Rattle.audit_sightings.specs.declared.fault.IntakeFaultKind.TheVariants.{Limit}
use Rattle.audit_program.proofs.Following.{files_opened, full_ends, goes_opened}
use Rattle.audit_program.proofs.live.Watch.open.Goals as goal

pub returns-clause-goes : goal.returns-clause-goes
returns-clause-goes g c = λ policy_text users_text policy users none.
    let Holds : Type 0 = List ℕ → Option (List ℕ) in
    let first = c.read_policy.ensures.kept in
    let rest = c.in_ok-add_captures.ensures.rest in
    goes_opened policy_text users_text (length c.args.captures.now) (g.S.Growing.bytes_read c.start.new.self) c.add_captures.new.live c.in_ok-policy.policy c.in_ok-users.users
    (ap (λ (a : Audit). a.ended) rest ∙ c.open-live.ensures.ended)
    (c.in_ok-policy.ensures.says policy_text policy)
    (c.in_ok-add_captures.ensures.policy ∙ ap (λ (t : Taken). t.policy) c.open-live.ensures.taken)
    (c.in_ok-users.ensures.says users_text (subst (λ (h : Holds). IfSome c.args.users (λ name. h name.now ≡ Some users_text)) (sym first) users) none)
    (ap (λ (a : Audit). a.credentials) rest ∙ c.open-live.ensures.credentials)
    (c.in_ok-add_captures.ensures.stands c.open-live.ensures.stands)
    c.start.ensures.bytes_read

pub returns-clause-files : goal.returns-clause-files
returns-clause-files g c = files_opened c.add_captures.new.live.intake (length c.args.captures.now) (c.in_ok-add_captures.ensures.stands c.open-live.ensures.stands)

pub returns-clause-unread : goal.returns-clause-unread
returns-clause-unread g c = λ file within. c.start.ensures.reads file

pub returns-in_err-add_captures-clause-refused : goal.returns-in_err-add_captures-clause-refused
returns-in_err-add_captures-clause-refused g c = λ policy_text users_text bytes_read policy users none.
    let Holds : Type 0 = List ℕ → Option (List ℕ) in
    let of_policy = c.in_ok-policy.ensures.says policy_text policy in
    let of_users = c.in_ok-users.ensures.says users_text (subst (λ (h : Holds). IfSome c.args.users (λ name. h name.now ≡ Some users_text)) (sym c.read_policy.ensures.kept) users) none in
    let refused = c.in_err-add_captures.ensures.refused c.open-live.ensures.stands c.open-live.ensures.ended in
    err_then c.from_residual-in_err-add_captures.result c.from_residual-in_err-add_captures.ensures.1
    (λ stop is. inr (
      c.in_ok-policy.policy,
      of_policy,
      inr (
        key_for c.in_ok-users.users,
        of_users,
        full_ends (length c.args.captures.now) bytes_read c.in_ok-policy.policy stop
            (subst (λ s. (s ≡ Memory) ⊎ ((16 < length c.args.captures.now) × EndsByIntake (record { kind = Limit; file = 16 }) s)) (sym is) refused),
      ),
    ))
