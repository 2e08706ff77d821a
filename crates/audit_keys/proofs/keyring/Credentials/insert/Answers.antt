use Rattle.std.proofs.Common.{◌≡◌, ℕ, List, Option, Some, cond, refl, subst, ap, ◌∙◌}
use Rattle.std.specs.Prelude.{IsSome, ◌&&◌}
use Rattle.std.specs.Str.{bytes_eq}
use Rattle.std.specs.Global.{Vec}
use Rattle.std.specs.BTreeMap.{BTreeMap, UpdatesBy}
use Rattle.audit_keys.specs.declared.keys.Keys.{Keys}
use Rattle.audit_keys.specs.KeyFor.{key_for}
use Rattle.audit_keys.proofs.Keyrings.{by_bytes, vec_cmp, find, in_old_realm, in_new_realm}
use Rattle.audit_keys.proofs.keyring.Credentials.insert.Goals as goal

-- a change at a key is one at its bytes
at_bytes : {X : Type 0} (bs cs : List ℕ) (m n : BTreeMap (Vec ℕ) X) (w : Option X) → bs ≡ cs → UpdatesBy vec_cmp (by_bytes bs) m n w → UpdatesBy vec_cmp (by_bytes cs) m n w
at_bytes bs cs m n w e h = subst (λ (l : List ℕ). UpdatesBy vec_cmp (by_bytes l) m n w) e h

pub returns-in-Some-clause-ok : goal.returns-in-Some-clause-ok
unfolding key_for
returns-in-Some-clause-ok c = λ u r.
    let user = c.args.credential.user.now in
    let realm = c.args.credential.realm.now in
    let realms = c.args.self.now.realms in
    let users = c.insert.new.self in
    in_old_realm realms (c.get_mut.follows.lender users) c.in-Some.users.now users user realm c.keys_of-keys.result c.in-Some.ensures.value
    (at_bytes c.in_ok-user.user.items user c.in-Some.users.now users (Some c.keys_of-keys.result) c.in_ok-user.ensures.items c.in_ok-insert.ensures.updates)
    ((c.get_mut.follows.holds users).3 (subst IsSome c.in-Some.ensures.value refl)) u r
    ∙ ap (λ (k : Keys). cond (bytes_eq user u && bytes_eq realm r) (Some k) (find realms u r)) c.keys_of-keys.ensures

pub returns-clause-ok : goal.returns-clause-ok
unfolding key_for
returns-clause-ok c = λ u r.
    let user = c.args.credential.user.now in
    let realm = c.args.credential.realm.now in
    let realms = c.args.self.now.realms in
    let users = c.insert-2.new.self in
    in_new_realm realms c.insert-3.new.self c.new-users.result users user realm c.keys_of-keys.result c.in_default.ensures.value c.new-users.ensures.empty
    (at_bytes c.in_ok-user.user.items user c.new-users.result users (Some c.keys_of-keys.result) c.in_ok-user.ensures.items c.in_ok-insert-2.ensures.updates)
    (subst (λ (m : BTreeMap (Vec ℕ) (BTreeMap (Vec ℕ) Keys)). UpdatesBy vec_cmp (by_bytes realm) m c.insert-3.new.self (Some users)) c.get_mut.follows.holds-at-none
    (at_bytes c.in_ok-realm.realm.items realm c.get_mut.follows.lender-at-none c.insert-3.new.self (Some users) c.in_ok-realm.ensures.items c.in_ok-insert-3.ensures.updates)) u r
    ∙ ap (λ (k : Keys). cond (bytes_eq user u && bytes_eq realm r) (Some k) (find realms u r)) c.keys_of-keys.ensures
