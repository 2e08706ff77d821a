-- The user that a request tells has the key that the credentials have for whom it names.
use Rattle.std.proofs.Common.{◌≡◌, ℕ, zero, suc, Bool, true, cond, ◌&&◌, List, [], ◌∷◌, Option, Some, None, refl, sym, ap, ◌∙◌}
use Rattle.std.specs.Prelude.{IsSomeAnd, slice_get, option_map, option_to_list}
use Rattle.std.specs.Str.{bytes_eq}
use Rattle.std.proofs.lemmas.Slice.Eq.{bytes_eq-Decides}
use Rattle.audit_stun.specs.declared.numbers.attribute.TheConstants.{USERNAME, REALM}
use Rattle.audit_stun.specs.Counted.{first_of}
use Rattle.audit_stun.specs.Message.{Parts, IsMessage}
use Rattle.audit_stun.specs.Parts.{parts_of}
use Rattle.audit_stun.proofs.Headers.{header_of_message}
use Rattle.audit_keys.specs.declared.keys.Keys.{Keys}
use Rattle.audit_rules.specs.Keys.{KeyFor, AgreeOn}
use Rattle.audit_rules.specs.Named.{Names, NamesNobody}
use Rattle.audit_lane.specs.Content.{User, numbered}
use Rattle.audit_lane.specs.Judged.{key_by}
use Rattle.audit_lane.specs.UserRows.{IsOfUser}
use Rattle.audit_verdict.proofs.KeysTold.{AgreeInRequest}

same_some : {X : Type 0} (x y : X) → Some x ≡ Some y → x ≡ y
same_some x y h = cc

is_the_one : (a b : Bool) → a ≡ true → b ≡ true → (a && b) ≡ true
is_the_one a b h k = ap (λ c. c && b) h ∙ k

-- a user alone has their own key
key_alone : (one : User) (user realm : List ℕ) → one.user ≡ user → one.realm ≡ realm → key_by (one ∷ []) user realm ≡ Some one.key
key_alone one user realm u r =
    ap (λ (b : Bool). option_map (λ (o : User). o.key) (cond b (Some one) None)) (is_the_one (bytes_eq one.user user) (bytes_eq one.realm realm) ((bytes_eq-Decides one.user user).1 u) ((bytes_eq-Decides one.realm realm).1 r))

-- nobody is named, so there is no key
nobody_agrees : (key_for : KeyFor) (payload : List ℕ) → NamesNobody key_for payload → IsMessage payload (parts_of payload) → AgreeOn (key_by []) key_for payload
nobody_agrees key_for payload nobody message user realm names_user names_realm = by_key (key_for user realm) refl where
  by_key : (found : Option Keys) → key_for user realm ≡ found → None ≡ key_for user realm
  by_key None is = sym is
  by_key (Some key) is = absurd (nobody user realm key (record { parts = parts_of payload; message = message; names_user = names_user; names_realm = names_realm; known = is }))

one_agrees : (key_for : KeyFor) (payload : List ℕ) (one : User) → Names key_for payload one.user one.realm one.key → AgreeOn (key_by (one ∷ [])) key_for payload
one_agrees key_for payload one names user realm names_user names_realm =
    let parts = (header_of_message payload names.parts names.message).1 in
    let same_user : one.user ≡ user = same_some one.user user (sym names.names_user ∙ ap (λ (p : Parts). first_of USERNAME p.attributes) parts ∙ names_user) in
    let same_realm : one.realm ≡ realm = same_some one.realm realm (sym names.names_realm ∙ ap (λ (p : Parts). first_of REALM p.attributes) parts ∙ names_realm) in
    key_alone one user realm same_user same_realm ∙ sym names.known ∙ ap (λ (u : List ℕ). key_for u one.realm) same_user ∙ ap (key_for user) same_realm

some_agrees : (key_for : KeyFor) (users : List User) (payload : List ℕ) (n : ℕ) → IsSomeAnd (slice_get users n) (λ one. Names key_for payload one.user one.realm one.key) →
    AgreeOn (key_by (option_to_list (slice_get users n))) key_for payload
some_agrees key_for [] payload n holds = elim holds [ ]
some_agrees key_for (one ∷ users) payload zero holds = one_agrees key_for payload one holds
some_agrees key_for (one ∷ users) payload (suc n) holds = some_agrees key_for users payload n holds

pub user_agrees : (key_for : KeyFor) (users : List User) (payload : List ℕ) (number : Option ℕ) → IsOfUser key_for users payload number → AgreeInRequest (key_by (numbered users number)) key_for payload
user_agrees key_for users payload None nobody message class = nobody_agrees key_for payload (nobody message class) message
user_agrees key_for users payload (Some n) holds message class = some_agrees key_for users payload n holds
