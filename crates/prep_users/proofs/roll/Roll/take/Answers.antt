use Rattle.std.proofs.Common.{List, ℕ, [], ◌∷◌, sym, subst}
use Rattle.prep_users.specs.Claims.{Claims, Proves}
use Rattle.prep_users.proofs.Proved.{all_more, one_more}
use Rattle.prep_users.proofs.roll.Roll.take.Goals as goal

pub returns-in_default-clause-proved : goal.returns-in_default-clause-proved
returns-in_default-clause-proved c = λ payloads all. all_more c.args.self.now.secrets c.args.self.now.accounts payloads (c.args.payload.now ∷ []) all

pub returns-in_ok-push-clause-proved : goal.returns-in_ok-push-clause-proved
returns-in_ok-push-clause-proved c = λ payloads all.
    let told = c.in-Some.ensures in
    let proves = rw c.in-Some-2.is at (c.in_ok-account.ensures (subst (λ (r : List ℕ). Claims r c.in-Some.claim.user.now c.in-Some.claim.realm.now) (sym told.0) told.1)) in
    rw c.in_ok-push.ensures.ok (one_more c.args.self.now.secrets c.args.self.now.accounts c.in-Some-2.account payloads c.args.payload.now all
    (subst (λ (r : List ℕ). Proves c.args.self.now.secrets c.in-Some-2.account r) told.0 (rw c.as_slice.ensures at proves)))

pub returns-then-not-wants-clause-proved : goal.returns-then-not-wants-clause-proved
returns-then-not-wants-clause-proved c = λ payloads all. all_more c.args.self.now.secrets c.args.self.now.accounts payloads (c.args.payload.now ∷ []) all

pub returns-then-branch-clause-proved : goal.returns-then-branch-clause-proved
returns-then-branch-clause-proved c = λ payloads all. all_more c.args.self.now.secrets c.args.self.now.accounts payloads (c.args.payload.now ∷ []) all

pub returns-in_default-2-clause-proved : goal.returns-in_default-2-clause-proved
returns-in_default-2-clause-proved c = λ payloads all. all_more c.args.self.now.secrets c.args.self.now.accounts payloads (c.args.payload.now ∷ []) all

pub returns-else-can_stand-clause-proved : goal.returns-else-can_stand-clause-proved
returns-else-can_stand-clause-proved c = λ payloads all. all_more c.args.self.now.secrets c.args.self.now.accounts payloads (c.args.payload.now ∷ []) all
