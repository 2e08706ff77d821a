-- What holds of what an option has, and who is authentic.
use Rattle.std.proofs.Common.{◌≡◌, ℕ, List, Option, Some, None, refl, sym, subst}
use Rattle.std.specs.Prelude.{IsSome, IsSomeAnd}
use Rattle.std.specs.Option.{option_and_then}
use Rattle.audit_stun.specs.declared.numbers.attribute.TheConstants.{USERNAME, REALM, NONCE}
use Rattle.audit_stun.specs.Counted.{first_of}
use Rattle.audit_stun.specs.Parts.{parts_of}
use Rattle.audit_keys.specs.declared.keys.Keys.{Keys}
use Rattle.audit_keys.specs.Chosen.{chosen_key}
use Rattle.audit_keys.specs.Keys.{KeyFor}
use Rattle.audit_keys.specs.Signed.{IsSigned}
use Rattle.audit_keys.specs.Authentic.{IsAuthentic}
use Rattle.audit_rules.specs.Situation.{Situation, arrival_parts}
use Rattle.audit_rules.specs.Standing.{IsByUser}

pub some_and : {A : Type 0} (o : Option A) (P : A → Type 0) → IsSomeAnd o P → (a : A) × (o ≡ Some a) × P a
some_and (Some a) P p = (a, refl, p)
some_and None P p = absurd p

pub some_is : {A : Type 0} (o : Option A) (a : A) → o ≡ Some a → IsSome o
some_is o a e = subst IsSome (sym e) refl

pub some_has : {A : Type 0} (o : Option A) (P : A → Type 0) (a : A) → o ≡ Some a → P a → IsSomeAnd o P
some_has o P a e p = subst (λ x. IsSomeAnd x P) (sym e) p

pub has_some : {A : Type 0} (o : Option A) (P : A → Type 0) (a : A) → o ≡ Some a → IsSomeAnd o P → P a
has_some o P a e p = subst (λ x. IsSomeAnd x P) e p

pub and_some : {A : Type 0} (o : Option A) (P : A → Type 0) → IsSomeAnd o P → IsSome o
and_some (Some a) P p = refl
and_some None P p = absurd p

pub both_some : {A : Type 0} (o : Option A) (P Q : A → Type 0) → IsSomeAnd o (λ a. P a × Unit {0}) → IsSomeAnd o Q → IsSomeAnd o (λ a. P a × Q a)
both_some (Some a) P Q p q = (p.0, q)
both_some None P Q p q = absurd p

pub map_some : {A : Type 0} (o : Option A) (P Q : A → Type 0) → ((a : A) → P a → Q a) → IsSomeAnd o P → IsSomeAnd o Q
map_some (Some a) P Q f p = f a p
map_some None P Q f p = absurd p

signed_key : (find : KeyFor) (message user realm nonce : List ℕ) (k : Option Keys) → find user realm ≡ k → IsSomeAnd (option_and_then (chosen_key (parts_of message).attributes) k) (IsSigned message)
    → first_of USERNAME (parts_of message).attributes ≡ Some user → first_of REALM (parts_of message).attributes ≡ Some realm → first_of NONCE (parts_of message).attributes ≡ Some nonce
    → IsAuthentic find message user
signed_key find message user realm nonce (Some keys) e s u r n =
    let chosen = some_and (chosen_key (parts_of message).attributes keys) (IsSigned message) s in
    record { realm = realm; nonce = nonce; keys = keys; key = chosen.0; names_user = u; names_realm = r; has_nonce = n; known = e; chosen = chosen.1; signed = chosen.2 }
signed_key find message user realm nonce None e s u r n = absurd s

authentic_of : (find : KeyFor) (message : List ℕ) (u r n : Option (List ℕ)) → first_of USERNAME (parts_of message).attributes ≡ u → first_of REALM (parts_of message).attributes ≡ r
    → first_of NONCE (parts_of message).attributes ≡ n → IsSome n → IsSomeAnd (option_and_then (chosen_key (parts_of message).attributes) (option_and_then (λ user. option_and_then (find user) r) u)) (IsSigned message)
    → (user : List ℕ) × (first_of USERNAME (parts_of message).attributes ≡ Some user) × IsAuthentic find message user
authentic_of find message (Some user) (Some realm) (Some nonce) u r n some s = (user, u, signed_key find message user realm nonce (find user realm) refl s u r n)
authentic_of find message (Some user) (Some realm) None u r n some s = absurd cc
authentic_of find message (Some user) None n u r e some s = absurd s
authentic_of find message None r n u e f some s = absurd s

-- a request by a user is authentic by the user that it names
pub authentic : (x : Situation) → IsByUser x → (user : List ℕ) × (first_of USERNAME (arrival_parts x).attributes ≡ Some user) × IsAuthentic x.key_for x.arrives.payload user
authentic x by = authentic_of x.key_for x.arrives.payload (first_of USERNAME (arrival_parts x).attributes) (first_of REALM (arrival_parts x).attributes) (first_of NONCE (arrival_parts x).attributes) refl refl refl by.0 by.1

pub authentic_as : (x : Situation) (user : List ℕ) → IsByUser x → first_of USERNAME (arrival_parts x).attributes ≡ Some user → IsAuthentic x.key_for x.arrives.payload user
authentic_as x user by e =
    let a = authentic x by in
    let same : a.0 ≡ user = cc in
    subst (IsAuthentic x.key_for x.arrives.payload) same a.2

pub by_user : (x : Situation) (user : List ℕ) → IsAuthentic x.key_for x.arrives.payload user → IsByUser x
by_user x user a = (subst IsSome (sym a.has_nonce) refl, rw (a.names_user, a.names_realm, a.known, a.chosen) a.signed)
