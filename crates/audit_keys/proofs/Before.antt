-- A message without attributes of SHA-256 is signed and authentic as it was before.
use Rattle.std.proofs.Common.{◌≡◌, ◌≢◌, inl, inr, ℕ, eqb, List, [], ◌∷◌, Option, Some, None, refl, sym, ap, subst, ◌∙◌}
use Rattle.std.specs.List.{All, filter, find}
use Rattle.std.specs.Prelude.{Bool, ◌||◌, ◌==◌, MatchOption, IsSomeAnd, option_map}
use Rattle.std.proofs.lemmas.Bool.{ne_eqb, eq-eqb, cases_eq, cases_Bool}
use Rattle.std.proofs.lemmas.List.Elements.{All-head, All-tail, All-weaker}
use Rattle.audit_stun.specs.Attribute.{Attribute}
use Rattle.audit_stun.specs.Counted.{counted, after_integrity, first_of}
use Rattle.audit_stun.specs.Covered.{covered_of}
use Rattle.audit_stun.specs.Parts.{parts_of}
use Rattle.audit_keys.specs.declared.keys.Keys.{Keys}
use Rattle.audit_keys.specs.Authentic.{IsAuthentic}
use Rattle.audit_keys.specs.Before256.{counted_before, first_before, covered_before, WasSigned, WasAuthentic, md5_keys, HasNeither}
use Rattle.audit_keys.specs.Chosen.{algorithm_in, chosen_key}
use Rattle.audit_keys.specs.Keys.{KeyFor}
use Rattle.audit_keys.specs.Signed.{Integrity, IsHmac, IsHmac256, IsSigned}

-- none of these attributes is of the type
abbrev Lacks : ℕ → List Attribute → Type 0
Lacks kind attributes = All (λ a. a.kind ≢ kind) attributes

head : (kind : ℕ) (a : Attribute) (others : List Attribute) → Lacks kind (a ∷ others) → a.kind ≢ kind
head kind a others h = All-head (λ (x : Attribute). x.kind ≢ kind) a others h

tail : (kind : ℕ) (a : Attribute) (others : List Attribute) → Lacks kind (a ∷ others) → Lacks kind others
tail kind a others h = All-tail (λ (x : Attribute). x.kind ≢ kind) a others h

abbrev follows : Attribute → Bool
follows b = b.kind == 28 || b.kind == 32808

same_after : (attributes : List Attribute) → Lacks 28 attributes → after_integrity attributes ≡ filter follows attributes
unfolding after_integrity
same_after [] h = refl
same_after (a ∷ others) h =
    let later = same_after others (tail 28 a others h) in
    let n = ne_eqb a.kind 28 (head 28 a others h) in
    elim (cases_eq a.kind 32808) [
      | inl k ↦ rw (n, eq-eqb a.kind 32808 k) (ap (λ (x : List Attribute). a ∷ x) later)
      | inr m ↦ rw (n, ne_eqb a.kind 32808 m) later
    ]

same_counted : (attributes : List Attribute) → Lacks 28 attributes → counted attributes ≡ counted_before attributes
unfolding counted counted_before
same_counted [] h = refl
same_counted (a ∷ others) h =
    let n = ne_eqb a.kind 28 (head 28 a others h) in
    elim (cases_eq a.kind 8) [
      | inl k ↦ rw (eq-eqb a.kind 8 k) (ap (λ (x : List Attribute). a ∷ x) (same_after others (tail 28 a others h)))
      | inr m ↦ rw (n, ne_eqb a.kind 8 m) (ap (λ (x : List Attribute). a ∷ x) (same_counted others (tail 28 a others h)))
    ]

pub same_first : (kind : ℕ) (attributes : List Attribute) → Lacks 28 attributes → first_of kind attributes ≡ first_before kind attributes
unfolding first_of
same_first kind attributes h = ap (λ (x : List Attribute). option_map (λ a. a.value) (find (λ a. eqb a.kind kind) x)) (same_counted attributes h)

none_kept : (kind : ℕ) (attributes : List Attribute) → Lacks kind attributes → find (λ a. eqb a.kind kind) (filter follows attributes) ≡ None
none_kept kind [] h = refl
none_kept kind (a ∷ others) h =
    let later = none_kept kind others (tail kind a others h) in
    elim (cases_Bool (follows a)) [
      | inl y ↦ rw (y, ne_eqb a.kind kind (head kind a others h)) later
      | inr n ↦ rw n later
    ]

none_counted : (kind : ℕ) (attributes : List Attribute) → Lacks kind attributes → find (λ a. eqb a.kind kind) (counted_before attributes) ≡ None
unfolding counted_before
none_counted kind [] h = refl
none_counted kind (a ∷ others) h =
    let n = ne_eqb a.kind kind (head kind a others h) in
    elim (cases_eq a.kind 8) [
      | inl k ↦ rw (n, eq-eqb a.kind 8 k) (none_kept kind others (tail kind a others h))
      | inr m ↦ rw (n, ne_eqb a.kind 8 m) (none_counted kind others (tail kind a others h))
    ]

pub none_first : (kind : ℕ) (attributes : List Attribute) → Lacks 28 attributes → Lacks kind attributes → first_of kind attributes ≡ None
none_first kind attributes h g = same_first kind attributes h ∙ ap (λ (x : Option Attribute). option_map (λ a. a.value) x) (none_counted kind attributes g)

no_sha256 : (message : List ℕ) → Lacks 28 (parts_of message).attributes → covered_of 28 message ≡ None
unfolding covered_of
no_sha256 message h = rw (none_first 28 (parts_of message).attributes h h) refl

same_covered : (message : List ℕ) → Lacks 28 (parts_of message).attributes → covered_of 8 message ≡ covered_before message
unfolding covered_of covered_before
same_covered message h = rw (same_first 8 (parts_of message).attributes h) refl

signed_was : (message key : List ℕ) (o : Option Integrity) → o ≡ covered_before message → IsSomeAnd o (IsHmac key) → WasSigned message key
signed_was message key None e h = absurd h
signed_was message key (Some found) e h = record { head = found.0; text = found.1; value = found.2; covers = sym e; twenty = h.0; signs = h.1 }

was_signed : (message key : List ℕ) (o : Option Integrity) → o ≡ covered_before message → WasSigned message key → IsSomeAnd o (IsHmac key)
was_signed message key o e w = subst (λ (x : Option Integrity). IsSomeAnd x (IsHmac key)) (sym (e ∙ w.covers)) (w.twenty, w.signs)

abbrev Decides : List ℕ → Option Integrity → Option Integrity → Type 0
Decides key second first = MatchOption second (IsSomeAnd first (IsHmac key)) (IsHmac256 key)

lacks_28 : (message : List ℕ) → HasNeither message → Lacks 28 (parts_of message).attributes
lacks_28 message h = All-weaker (λ (a : Attribute). (a.kind ≢ 28) × (a.kind ≢ 29)) (λ (a : Attribute). a.kind ≢ 28) (λ a both. both.0) (parts_of message).attributes h

lacks_29 : (message : List ℕ) → HasNeither message → Lacks 29 (parts_of message).attributes
lacks_29 message h = All-weaker (λ (a : Attribute). (a.kind ≢ 28) × (a.kind ≢ 29)) (λ (a : Attribute). a.kind ≢ 29) (λ a both. both.1) (parts_of message).attributes h

pub signed_before : (message key : List ℕ) → HasNeither message → IsSigned message key → WasSigned message key
unfolding IsSigned
signed_before message key h s =
    let alone : IsSomeAnd (covered_of 8 message) (IsHmac key) = subst (λ (x : Option Integrity). Decides key x (covered_of 8 message)) (no_sha256 message (lacks_28 message h)) s in
    signed_was message key (covered_of 8 message) (same_covered message (lacks_28 message h)) alone

pub signed_still : (message key : List ℕ) → HasNeither message → WasSigned message key → IsSigned message key
unfolding IsSigned
signed_still message key h w =
    subst (λ (x : Option Integrity). Decides key x (covered_of 8 message)) (sym (no_sha256 message (lacks_28 message h)))
    (was_signed message key (covered_of 8 message) (same_covered message (lacks_28 message h)) w)

-- where no algorithm is named, the key is MD5's
chooses_md5 : (message : List ℕ) (keys : Keys) → HasNeither message → chosen_key (parts_of message).attributes keys ≡ Some keys.md5
unfolding chosen_key algorithm_in
chooses_md5 message keys h = rw (none_first 29 (parts_of message).attributes (lacks_28 message h) (lacks_29 message h)) refl

pub authentic_before : (look : KeyFor) (message user : List ℕ) → HasNeither message → IsAuthentic look message user → WasAuthentic (md5_keys look) message user
authentic_before look message user h a =
    let lacks = lacks_28 message h in
    let attributes = (parts_of message).attributes in
    record {
      realm = a.realm;
      nonce = a.nonce;
      key = a.key;
      names_user = sym (same_first 6 attributes lacks) ∙ a.names_user;
      names_realm = sym (same_first 20 attributes lacks) ∙ a.names_realm;
      has_nonce = sym (same_first 21 attributes lacks) ∙ a.has_nonce;
      known = ap (λ (o : Option Keys). option_map (λ k. k.md5) o) a.known ∙ sym (chooses_md5 message a.keys h) ∙ a.chosen;
      signed = signed_before message a.key h a.signed;
    }

-- the keys of which one was told
told : (key : List ℕ) (o : Option Keys) → option_map (λ k. k.md5) o ≡ Some key → (keys : Keys) × (o ≡ Some keys) × (Some keys.md5 ≡ Some key)
told key None e = absurd cc
told key (Some keys) e = (keys, refl, e)

pub authentic_still : (look : KeyFor) (message user : List ℕ) → HasNeither message → WasAuthentic (md5_keys look) message user → IsAuthentic look message user
authentic_still look message user h w =
    let lacks = lacks_28 message h in
    let attributes = (parts_of message).attributes in
    let t = told w.key (look user w.realm) w.known in
    record {
      realm = w.realm;
      nonce = w.nonce;
      keys = t.0;
      key = w.key;
      names_user = same_first 6 attributes lacks ∙ w.names_user;
      names_realm = same_first 20 attributes lacks ∙ w.names_realm;
      has_nonce = same_first 21 attributes lacks ∙ w.has_nonce;
      known = t.1;
      chosen = chooses_md5 message t.0 h ∙ t.2;
      signed = signed_still message w.key h w.signed;
    }
